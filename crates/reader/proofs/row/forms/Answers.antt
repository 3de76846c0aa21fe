use Rattle.std.proofs.Common.{ℕ, ◌-◌, ◌^◌, length, get_or, Some, sym, ap, ◌∙◌, le_refl, arith, pow_pos}
use Rattle.std.proofs.lemmas.List.{at_drop_all}
use Rattle.reader.specs.Rows.{forms_over}
use Rattle.reader.proofs.WordLaws.{forms_more, forms_bad, word_fits, form_bits_below}
use Rattle.reader.proofs.row.forms.Goals as goal

pub loop-i-init : goal.loop-i-init
loop-i-init c =
    let e = c.low_bits-absent.ensures in
    let p = pow_pos (32 - length c.args.part.now) in (
      omega arith,
      omega arith,
      at_drop_all (forms_over (2 ^ (32 - length c.args.part.now) - 1)) c.args.part.now (length c.args.part.now) (le_refl _)
          ∙ ap (λ (n : ℕ). Some (n, n)) (sym e),
    )

pub returns-in_err-zero : goal.returns-in_err-zero
returns-in_err-zero c =
    c.from_residual.ensures ∙ sym (forms_bad _ c.args.part.now (c.loop-i.i - 1) (omega arith) (sym c.form_at.ensures ∙ c.in_err-zero.was))

pub loop-i-preserved : goal.loop-i-preserved
loop-i-preserved c =
    let is = sym c.form_at.ensures ∙ c.in_ok-zero.was in
    let small = form_bits_below (get_or c.args.part.now (c.loop-i.i - 1) 0) c.in_ok-zero.zero c.in_ok-zero.one is in (
      word_fits c.loop-i.i _ _ (omega arith) (omega arith) c.loop-i.invariant.0 small.0,
      word_fits c.loop-i.i _ _ (omega arith) (omega arith) c.loop-i.invariant.1 small.1,
      forms_more (2 ^ (32 - length c.args.part.now) - 1) c.args.part.now c.loop-i.i c.in_ok-zero.zero c.in_ok-zero.one c.loop-i.zeros c.loop-i.ones
          (omega arith) (omega arith) is c.loop-i.invariant.2,
    )
