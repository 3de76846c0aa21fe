-- Characters turned into bytes one after another.
-- Assumes nothing.
use Rattle.std.proofs.Common.{◌≡◌, ℕ, ◌+◌, ◌<◌, ◌≤◌, List, ◌++◌, length, get_or, take, drop, set, sym, ap, ◌∙◌, arith}
use lib.Seq.{append_snoc}
use Rattle.std.proofs.lemmas.List.{drop_more, set_at, map_more, length-map, length-take-le}
use Rattle.expander.specs.Printing.{byte_of, table_of}

-- a table with the first i characters spelled at its start
abbrev pub spelled : List ℕ → List ℕ → ℕ → List ℕ
spelled line t i = table_of (take i line) ++ drop i t

pub spell_more : (line t : List ℕ) (i : ℕ) → i < length line → length line ≤ length t
    → set (spelled line t i) i (byte_of (get_or line i 0)) ≡ spelled line t (i + 1)
spell_more line t i h le =
    let front = table_of (take i line) in
    let long : length front ≡ i = length-map (take i line) byte_of ∙ length-take-le i line (omega arith) in
    ap (λ x. set (front ++ x) i (byte_of (get_or line i 0))) (drop_more t i 0 (omega arith))
    ∙ set_at front (get_or t i 0) (drop (i + 1) t) (byte_of (get_or line i 0)) i long
    ∙ sym (append_snoc front (byte_of (get_or line i 0)) (drop (i + 1) t))
    ∙ ap (λ x. x ++ drop (i + 1) t) (sym (map_more byte_of line i 0 h))
