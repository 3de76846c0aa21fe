-- What is printed for a sheet is read back as the products that stand for its rows.
-- Assumes nothing.
use Rattle.std.proofs.Common.{◌≡◌, ℕ, ◌+◌, ◌%◌, ◌^◌, ◌<◌, ◌≤◌, Bool, true, false, cond, List, [], ◌∷◌, ◌++◌, length, take, Some, None, Ok, Err, codes, decimal, Option, Result, sym, refl, ap, ◌∙◌, arith, lit<, length-append}
use Rattle.std.proofs.lemmas.Fmt.{decimal_by_steps, length-decimal-le}
use Rattle.std.proofs.lemmas.List.{append_assoc}
use Rattle.std.proofs.lemmas.Bool.{cond-true, le-leb, lt-leb, ne_eqb, and_from}
use Rattle.esop.specs.Criterion.{Test, reduce, refine}
use Rattle.esop.specs.Entering.{entered_all}
use Rattle.esop.specs.Running.{run}
use Rattle.esop.specs.Strategies.{test_of}
use Rattle.esop.specs.declared.ending.End.{End}
use Rattle.esop.specs.declared.ending.End.TheVariants.{Spent, Finished}
use Rattle.esop.specs.declared.strategy.Strategy.{Strategy}
use Rattle.esop.specs.declared.strategy.Strategy.TheVariants.{Reduce, Refine}
use Rattle.esop.specs.CriterionLaws.{strategies_strict}
use Rattle.esop.proofs.History.{histories_keep}
use Rattle.esop.proofs.Running.{run_keeps}
use Rattle.cube.specs.Positions.{cubes}
use Rattle.cube.specs.declared.cube.Cube.{Cube}
use Rattle.cube.specs.PositionLaws.{cubes_lawful}
use Rattle.sheet.specs.Refusing.{refusal_text, printed_by}
use Rattle.sheet.specs.Reporting.{start_text, ending_text, run_text}
use Rattle.sheet.specs.Text.{line, sheet_text}
use Rattle.sheet.specs.Writing.{has_room, in_range, all_keep}
use Rattle.sheet.specs.declared.state.WriteRefusal.{WriteRefusal}
use Rattle.sheet.specs.declared.state.WriteRefusal.TheVariants.{Full}
use Rattle.sheet.specs.declared.summary.RunSummary.{RunSummary}
use Rattle.sheet.proofs.RunLaws.{run_length}
use Rattle.reader.specs.Accepted.{Accepted, Spelled}
use Rattle.reader.specs.Lines.{skipped, pieces, class_of}
use Rattle.reader.specs.Reading.{Sheet, heading_of, step, judged, read, to}
use Rattle.reader.specs.declared.state.Refused.{Refused}
use Rattle.reader.specs.declared.state.State.TheVariants.{Inputs}
use Rattle.reader.specs.Back.{all_words}
use Rattle.reader.proofs.AcceptedLaws.{read_spelled, Worded, read_worded}
use Rattle.reader.proofs.BackLaws.{Each, NoFeed, each_append, judged_line, Ranges, ranges, sheet_judged, sheet_short}
use Rattle.minimizer.specs.declared.refusal.PrintRefusal.TheVariants.{Write}
use Rattle.minimizer.specs.Minimizing.{workable, shrinkable}
use Rattle.minimizer.specs.Printing.{reading, printout_of, printable, printable_text, printed, Faithful, Promised}
use Rattle.minimizer.specs.Printout.{printout_refusal}
use Rattle.minimizer.specs.Refusals.{print_number}
use Rattle.minimizer.specs.Shrinking.{reduced_run, refined_run, shrunk, summary_of, reduced_summary, refined_summary, log, Logged}
use Rattle.minimizer.proofs.KeepLaws.{shrunk_keeps, shrunk_words}
use Rattle.minimizer.proofs.ShrinkLaws.{logged}

-- a number in decimal has no line feed
decimal_feed : (n : ℕ) → n < 2 ^ 64 → Each NoFeed (decimal n)
decimal_feed =
    decimal_by_steps (λ n ds. Each NoFeed ds) (λ n h. (ne_eqb (48 + n) 10 (λ e. omega arith), tt))
    (λ n ds h front. each_append NoFeed ds ((48 + n % 10) ∷ []) front (ne_eqb (48 + n % 10) 10 (λ e. omega arith), tt))

-- the line of a run is a comment
word_text : End → List ℕ
word_text Finished = codes " finished"
word_text Spent = codes " spent"

body : RunSummary → List ℕ
body r = start_text r.strategy ++ decimal r.tried ++ codes " kept " ++ decimal r.kept ++ word_text r.end

ending_line : (b : End) → ending_text b ≡ line (word_text b)
unfolding word_text
ending_line Finished = refl
ending_line Spent = refl

body_line : (r : RunSummary) → run_text r ≡ line (body r)
unfolding run_text body
body_line r =
    let front = start_text r.strategy ++ decimal r.tried ++ codes " kept " ++ decimal r.kept in
    ap (λ t. front ++ t) (ending_line r.end) ∙ sym (append_assoc front (word_text r.end) (10 ∷ []))

start_feed : (y : Strategy) → Each NoFeed (start_text y)
start_feed Reduce = (refl, (refl, (refl, (refl, (refl, (refl, (refl, (refl, (refl, (refl, (refl, (refl, (refl, (refl, (refl, tt)))))))))))))))
start_feed Refine = (refl, (refl, (refl, (refl, (refl, (refl, (refl, (refl, (refl, (refl, (refl, (refl, (refl, (refl, (refl, tt)))))))))))))))

word_feed : (b : End) → Each NoFeed (word_text b)
unfolding word_text
word_feed Finished = (refl, (refl, (refl, (refl, (refl, (refl, (refl, (refl, (refl, tt)))))))))
word_feed Spent = (refl, (refl, (refl, (refl, (refl, (refl, tt))))))

-- its numbers are those of a run with the program's budget
pub record Small (r : RunSummary) : Type 0 where
  pub tried : r.tried ≤ 1000000
  pub kept : r.kept ≤ 1000000

body_feed : (r : RunSummary) → Small r → Each NoFeed (body r)
unfolding body
body_feed r s =
    let t = s.tried in
    let k = s.kept in
    let a = start_text r.strategy in
    each_append NoFeed (a ++ decimal r.tried ++ codes " kept " ++ decimal r.kept) (word_text r.end)
    (each_append NoFeed (a ++ decimal r.tried ++ codes " kept ") (decimal r.kept)
    (each_append NoFeed (a ++ decimal r.tried) (codes " kept ")
    (each_append NoFeed a (decimal r.tried) (start_feed r.strategy) (decimal_feed r.tried (omega arith)))
    (refl, (refl, (refl, (refl, (refl, (refl, tt)))))))
    (decimal_feed r.kept (omega arith)))
    (word_feed r.end)

body_class : (y : Strategy) (t k : ℕ) (b : End) → class_of (body (record { strategy = y; tried = t; kept = k; end = b })) ≡ skipped
unfolding body
body_class Reduce t k b = refl
body_class Refine t k b = refl

-- so the reader skips it
run_skipped : (n : ℕ) (r : RunSummary) (rest : List ℕ) → Small r → judged 960 Inputs n (pieces (run_text r ++ rest)) ≡ judged 960 Inputs (n + 1) (pieces rest)
run_skipped n r rest s =
    ap (λ t. judged 960 Inputs n (pieces (t ++ rest))) (body_line r)
    ∙ judged_line 960 Inputs n (body r) rest (to Inputs) (body_feed r s)
    (ap (λ x. step 960 Inputs x) (body_class r.strategy r.tried r.kept r.end))

run_short : (r : RunSummary) → Small r → length (run_text r) ≤ 45
run_short r s =
    let t = s.tried in
    let k = s.kept in
    let a = length-decimal-le 7 r.tried (lit< tt) (omega arith) (omega arith) in
    let b = length-decimal-le 7 r.kept (lit< tt) (omega arith) (omega arith) in
    let e = ending_short r.end in
    let l = run_length r in
    omega arith
  where
    ending_short : (b : End) → length (ending_text b) ≤ 10
    ending_short Finished = omega arith
    ending_short Spent = omega arith

-- the counts of a run
outcome_small : (y : Strategy) (test : Test) (c : List Cube) → Small (summary_of y (run cubes test 1000000 c))
outcome_small y test c =
    let r = run_keeps cubes test 1000000 c in
    let a = r.within in
    let t = r.tried_two in
    let u = r.tried_three in
    let v = r.tried_four in
    record { tried = a; kept = omega arith }

reduced_small : (rows : List Cube) → Small (reduced_summary rows)
unfolding reduced_run
reduced_small rows = outcome_small Reduce reduce (entered_all cubes rows [])

refined_small : (rows : List Cube) → Small (refined_summary rows)
unfolding refined_run
refined_small rows = outcome_small Refine refine (reduced_run rows).cover

-- the history of the rows on a memory that just holds them
rows_logged : (rows : List Cube) → length rows ≤ 960 → Logged rows rows (length rows + 2)
unfolding log
rows_logged rows few =
    logged rows rows (length rows + 2) (record { room = omega arith; work = omega arith })
    (histories_keep cubes cubes_lawful test_of strategies_strict rows _)

module _ (text : List ℕ) (s : Sheet) (spelled : Spelled 960 text s) (words : all_words s.products ≡ true) where
  abbrev i : ℕ
  i = s.heading.inputs

  abbrev o : ℕ
  o = s.heading.outputs

  abbrev rows : List Cube
  rows = s.products

  heading_ranges : Ranges i o s.heading.rows
  heading_ranges = ranges i o s.heading.rows spelled.range

  few : length rows ≤ 960
  few = let r = heading_ranges.rows in let c = spelled.count in omega arith

  told : Logged rows rows (length rows + 2)
  told = rows_logged rows few

  left_range : Ranges i o (length (shrunk rows))
  left_range =
      let c = told.sound.count in
      let f = few in
      record { inputs = heading_ranges.inputs; outputs = heading_ranges.outputs; rows = omega arith }

  range_true : in_range i o (length (shrunk rows)) ≡ true
  range_true =
      let r = left_range in
      and_from _ _ (and_from _ _ (and_from _ _ (and_from _ _ (le-leb 1 i r.inputs.0) (le-leb i 32 r.inputs.1)) (le-leb 1 o r.outputs.0)) (le-leb o 32 r.outputs.1))
      (le-leb (length (shrunk rows)) 960 r.rows)

  keep_true : all_keep i o (shrunk rows) ≡ true
  keep_true = shrunk_keeps i o heading_ranges.inputs.1 heading_ranges.outputs.1 rows spelled.keep words

  words_true : all_words (shrunk rows) ≡ true
  words_true = shrunk_words i o heading_ranges.inputs.1 heading_ranges.outputs.1 rows spelled.keep words

  short : length (printout_of s) ≤ 64000
  short =
      let a = length-append (run_text (reduced_summary rows) ++ run_text (refined_summary rows)) (sheet_text i o (shrunk rows)) in
      let b = length-append (run_text (reduced_summary rows)) (run_text (refined_summary rows)) in
      let c = run_short (reduced_summary rows) (reduced_small rows) in
      let d = run_short (refined_summary rows) (refined_small rows) in
      let e = sheet_short i o (shrunk rows) left_range in
      omega arith

  read_again : read 960 (printout_of s) ≡ Ok (record { heading = heading_of i o (length (shrunk rows)); products = shrunk rows })
  read_again =
      let f = few in
      let c = told.sound.count in
      cond-true _ _ _ (le-leb (length (printout_of s)) 64000 short)
      ∙ ap (λ t. judged 960 Inputs 1 (pieces t)) (append_assoc (run_text (reduced_summary rows)) (run_text (refined_summary rows)) (sheet_text i o (shrunk rows)))
      ∙ run_skipped 1 (reduced_summary rows) (run_text (refined_summary rows) ++ sheet_text i o (shrunk rows)) (reduced_small rows)
      ∙ run_skipped (1 + 1) (refined_summary rows) (sheet_text i o (shrunk rows)) (refined_small rows)
      ∙ sheet_judged 960 (1 + 1 + 1) i o (shrunk rows) left_range keep_true words_true (omega arith)

  shrinks : shrinkable 960 962 (Ok s) ≡ Ok s
  shrinks =
      let r = heading_ranges.rows in
      ap (workable 962) (cond-true _ _ _ (le-leb s.heading.rows 960 r)) ∙ cond-true _ _ _ (le-leb (s.heading.rows + 2) 962 (omega arith))

  -- by whether the printout fits the memory
  refusal_is : (m : List ℕ) (x : Bool) → has_room m 0 (printout_of s) ≡ x
      → printout_refusal m i o (reduced_summary rows) (refined_summary rows) (shrunk rows) ≡ cond x None (Some Full)
  refusal_is m x e = cond-true _ _ _ range_true ∙ cond-true _ _ _ keep_true ∙ ap (λ b. cond b None (Some Full)) e

  written_by : (m : List ℕ) (x : Option WriteRefusal) → printout_refusal m i o (reduced_summary rows) (refined_summary rows) (shrunk rows) ≡ x
      → printed_by print_number (printable_text m (Ok s)) ≡ printed_by print_number (elim x [ None ↦ Ok (printout_of s) | Some why ↦ Err (Write why) ])
  unfolding printable_text
  written_by m x e =
      ap (λ y. printed_by print_number (printable m y)) shrinks
      ∙ ap (λ (y : Option WriteRefusal). printed_by print_number (elim y [ None ↦ Ok (printout_of s) | Some why ↦ Err (Write why) ])) e

  printed_is : (m : List ℕ) → length (printout_of s) ≤ length m → printed_by print_number (printable_text m (Ok s)) ≡ printout_of s
  printed_is m room = written_by m None (refusal_is m true (le-leb (0 + length (printout_of s)) (length m) (omega arith)))

  full : (m : List ℕ) → length m < length (printout_of s) → printed_by print_number (printable_text m (Ok s)) ≡ refusal_text 28
  full m less = written_by m (Some Full) (refusal_is m false (lt-leb (0 + length (printout_of s)) (length m) (omega arith)))

  faithful : (m : List ℕ) → length (printout_of s) ≤ length m → Faithful s (printed_by print_number (printable_text m (Ok s)))
  faithful m room =
      let is = printed_is m room in
      record {
        is = is;
        accepted = ap (read 960) is ∙ read_again;
        parity = told.sound.parity;
        apart = told.sound.apart;
        fewer = told.sound.count;
      }

pub promised : (m : List ℕ) (n : ℕ) → Promised m (reading m n) (printed m n)
unfolding printable_text
promised m n = by (reading m n) (read_spelled 960 (take n m)) (read_worded 960 (take n m))
  where
    by : (v : Result Sheet Refused) → Accepted 960 (take n m) v → Worded v → Promised m v (printed_by print_number (printable_text m v))
    by (Err e) a w = refl
    by (Ok s) a w = record { short = short (take n m) s a w; fits = faithful (take n m) s a w m; full = full (take n m) s a w m }
