use Rattle.std.proofs.Common.{◌≡◌, ◌++◌, length, drop, ap, ◌∙◌, arith}
use Rattle.expansion.specs.Expansions.{needed, chosen_products}
use Rattle.expansion.proofs.AnswerLaws.{table_length, placed}
use Rattle.expansion.proofs.call.place.Goals as goal

pub survey-count-requires : goal.survey-count-requires
survey-count-requires c =
    table_length c.args.k c.args.table.now c.args.output c.args.list.now c.requires.inputs c.requires.bytes c.requires.output

pub emit-requires : goal.emit-requires
emit-requires c =
    let n = table_length c.args.k c.args.table.now c.args.output c.args.list.now c.requires.inputs c.requires.bytes c.requires.output in
    let same = c.survey-count.ensures.table in
    let less : needed c.args.k c.survey-count.new.table ≡ needed c.args.k c.args.table.now = ap (needed c.args.k) same in
    record { inputs = (n.0, ap length same ∙ n.1); room = omega (arith, c.survey-count.ensures.count) }

pub returns : goal.returns
returns c =
    let k = c.args.k in
    let same = c.survey-count.ensures.table in
    let less : needed k c.survey-count.new.table ≡ needed k c.args.table.now = ap (needed k) same in
    placed k c.args.table.now c.args.output c.args.list.now c.requires.inputs c.requires.bytes c.requires.output
    _ _ _ (omega (arith, c.survey-count.ensures.count)) (c.emit.ensures.count ∙ less) (c.emit.ensures.table ∙ same)
    (c.emit.ensures.list ∙ (λ i. chosen_products k (same i) (c.start.ensures i) ++ drop (less i) c.args.list.now))
