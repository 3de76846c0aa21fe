use Rattle.std.proofs.Common.{◌≡◌, ◌-◌, ◌/◌, length, get_or, refl, sym, ap, ◌∙◌, arith}
use Rattle.std.proofs.lemmas.List.{take_rest}
use Rattle.cube.specs.Cubes.{with_form}
use Rattle.expansion.specs.Tables.{turned}
use Rattle.expansion.proofs.TableLaws.{part_back}
use Rattle.expansion.proofs.SurveyLaws.{few}
use Rattle.expansion.proofs.SplitLaws.{turned_twice}
use Rattle.expansion.proofs.EmitLaws.{surveyed, fewer, halves, enough, first_inputs, second_inputs, shared, both_placed, first_read, second_read, list_back, one_needed, one_placed, none_needed, none_placed}
use Rattle.expansion.proofs.emit.+emit.Goals as goal

pub returns-then-table-ne1 : goal.returns-then-table-ne1
returns-then-table-ne1 t c =
    let leaf = sym c.in_default.is ∙ c.survey.ensures.split in
    let not_one = λ (e : get_or c.args.table.now 0 0 ≡ 1). c.if-table-ne1.true (ap (λ u. get_or u 0 0) c.survey.ensures.table ∙ e) in
    record { count = sym (none_needed c.args.k c.args.table.now leaf not_one); list = none_placed c.args.k c.args.table.now leaf not_one c.args.product c.args.list.now; table = c.survey.ensures.table }

pub bounds-list-0 : goal.bounds-list-0
bounds-list-0 t c =
    let leaf = sym c.in_default.is ∙ c.survey.ensures.split in
    let one : get_or c.args.table.now 0 0 ≡ 1 = ap (λ u. get_or u 0 0) (sym c.survey.ensures.table) ∙ omega arith in
    omega (arith, one_needed c.args.k c.args.table.now leaf one, c.requires.room)

pub returns-in_default : goal.returns-in_default
returns-in_default t c =
    let leaf = sym c.in_default.is ∙ c.survey.ensures.split in
    let one : get_or c.args.table.now 0 0 ≡ 1 = ap (λ u. get_or u 0 0) (sym c.survey.ensures.table) ∙ omega arith in
    record { count = sym (one_needed c.args.k c.args.table.now leaf one); list = one_placed c.args.k c.args.table.now leaf one c.args.product c.args.list.now c.requires.room; table = c.survey.ensures.table }

pub emit-count-requires : goal.emit-count-requires
emit-count-requires t c =
    let w = surveyed c.survey.ensures.table c.survey.ensures.split c.in-Some.is c.requires.inputs in
    let first = first_read c.in-Some.split c.survey.new.table _ c.first_from-from.ensures in
    (omega (arith, fewer w, c.decreases), (first_inputs w first, omega (arith, shared w first refl c.args.product, c.requires.room)))

pub offset_bounds-list-count : goal.offset_bounds-list-count
offset_bounds-list-count t c =
    let w = surveyed c.survey.ensures.table c.survey.ensures.split c.in-Some.is c.requires.inputs in
    let most = few (c.args.k - 1) _ _ (first_inputs w (first_read c.in-Some.split c.survey.new.table _ c.first_from-from.ensures)) c.emit-count.ensures.count in
    record { fits = omega arith }

pub slice_bounds-emit-count-3 : goal.slice_bounds-emit-count-3
slice_bounds-emit-count-3 t c =
    let w = surveyed c.survey.ensures.table c.survey.ensures.split c.in-Some.is c.requires.inputs in
    (enough w (first_read c.in-Some.split c.survey.new.table _ c.first_from-from.ensures) refl c.args.product c.args.list.now _ c.requires.room c.emit-count.auto.list c.emit-count.ensures.count).0

pub slice_bounds-emit-start-3 : goal.slice_bounds-emit-start-3
slice_bounds-emit-start-3 t c =
    let w = surveyed c.survey.ensures.table c.survey.ensures.split c.in-Some.is c.requires.inputs in
    (enough w (first_read c.in-Some.split c.survey.new.table _ c.first_from-from.ensures) refl c.args.product c.args.list.now _ c.requires.room c.emit-count.auto.list c.emit-count.ensures.count).0

pub emit-more-requires : goal.emit-more-requires
emit-more-requires t c =
    let w = surveyed c.survey.ensures.table c.survey.ensures.split c.in-Some.is c.requires.inputs in
    let first = first_read c.in-Some.split c.survey.new.table _ c.first_from-from.ensures in
    let mid = c.turn.ensures ∙ ap (turned c.in-Some.split (length c.survey.new.table / 2)) (part_back _ _ _ _ c.emit-count.ensures.table) in
    let second = second_read c.in-Some.split c.survey.new.table _ mid in
    let room = enough w first second c.args.product c.args.list.now _ c.requires.room c.emit-count.auto.list c.emit-count.ensures.count in
    (omega (arith, fewer w, c.decreases), (second_inputs w first second c.args.product, room.1))

pub overflow_add-result : goal.overflow_add-result
overflow_add-result t c =
    let w = surveyed c.survey.ensures.table c.survey.ensures.split c.in-Some.is c.requires.inputs in
    let first = first_read c.in-Some.split c.survey.new.table _ c.first_from-from.ensures in
    let mid = c.turn.ensures ∙ ap (turned c.in-Some.split (length c.survey.new.table / 2)) (part_back _ _ _ _ c.emit-count.ensures.table) in
    let one = few (c.args.k - 1) _ _ (first_inputs w first) c.emit-count.ensures.count in
    let other = few (c.args.k - 1) _ _ (second_inputs w first (second_read c.in-Some.split c.survey.new.table _ mid) c.args.product) c.emit-more.ensures.count in
    record { fits = omega arith }

pub returns : goal.returns
returns t c =
    let w = surveyed c.survey.ensures.table c.survey.ensures.split c.in-Some.is c.requires.inputs in
    let first = first_read c.in-Some.split c.survey.new.table _ c.first_from-from.ensures in
    let turn = turned c.in-Some.split (length c.survey.new.table / 2) in
    let mid = c.turn.ensures ∙ ap turn (part_back _ _ _ _ c.emit-count.ensures.table) in
    let second = second_read c.in-Some.split c.survey.new.table _ mid in
    record {
      count = omega (arith, shared w first second c.args.product, c.emit-count.ensures.count, c.emit-more.ensures.count);
      list =
          list_back c.emit-count.result c.emit-count.new.list c.emit-more.new.list
          ∙ both_placed w first second c.args.product c.args.list.now
          (c.with_form-first.ensures ∙ ap (with_form c.args.product (c.args.k - 1)) c.first_form.ensures)
          (c.with_form-second.ensures ∙ ap (with_form c.args.product (c.args.k - 1)) c.second_form.ensures)
          c.emit-count.ensures.count c.emit-count.ensures.list (take_rest c.emit-count.new.list c.emit-count.result) c.emit-more.ensures.list;
      table =
          c.turn-2.ensures ∙ ap turn (part_back _ _ _ _ c.emit-more.ensures.table ∙ mid)
          ∙ turned_twice (length c.survey.new.table / 2) c.survey.new.table (halves w) c.in-Some.split ∙ c.survey.ensures.table;
    }
