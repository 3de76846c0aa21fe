-- The product of a row, by its parts.
-- Assumes nothing.
use Rattle.std.proofs.Common.{◌≡◌, ℕ, true, List, Option, ◌∙◌, ap₂}
use Rattle.std.proofs.lemmas.Bool.{cond-true}
use Rattle.reader.specs.Rows.{form_words, driven_word, row_of_words, as_long, product_of}

pub product_long : (i o : ℕ) (is os : List ℕ) (f : Option (ℕ × ℕ)) (d : Option ℕ) → as_long i o is os ≡ true → form_words is ≡ f → driven_word os ≡ d
    → product_of i o is os ≡ row_of_words f d
unfolding product_of
product_long i o is os f d e p q = cond-true _ _ _ e ∙ ap₂ row_of_words p q
