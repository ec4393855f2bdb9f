-- How an edit is undone.
use Rattle.std.proofs.Common.{◌≡◌, ℕ, ◌+◌, ◌-◌, ◌≤◌, List, ◌++◌, length, take, drop, sym, ap, ◌∙◌, arith}
use Rattle.std.proofs.lemmas.List.{length-take-le, drop-drop, take-append-drop}
use Rattle.std.proofs.Math.Seq.{take-append_seam, drop-append_seam, drop-append-add}
use Rattle.shtext.specs.Edit.{spliced}

pub undone : (bytes new : List ℕ) (a b : ℕ) → a ≤ b → b ≤ length bytes
    → spliced (spliced bytes a b new) a (a + length new) (take (b - a) (drop a bytes)) ≡ bytes
undone bytes new a b order within =
    let made : List ℕ = spliced bytes a b new in
    let old : List ℕ = take (b - a) (drop a bytes) in
    let long : length (take a bytes) ≡ a = length-take-le a bytes (omega (arith, order, within)) in
    let front : take a made ≡ take a bytes = ap (λ m. take m made) (sym long)
    ∙ take-append_seam (take a bytes) (new ++ drop b bytes) in
    let back : drop (a + length new) made ≡ drop b bytes
    = ap (λ m. drop (m + length new) made) (sym long)
    ∙ drop-append-add (take a bytes) (new ++ drop b bytes) (length new) ∙ drop-append_seam new (drop b bytes) in
    let there : b ≡ a + (b - a) = omega (arith, order) in
    let rest : drop b bytes ≡ drop (b - a) (drop a bytes) = ap (λ m. drop m bytes) there
    ∙ sym (drop-drop (b - a) a bytes) in
    ap (λ l. l ++ (old ++ drop (a + length new) made)) front
    ∙ ap (λ l. take a bytes ++ (old ++ l)) (back ∙ rest)
    ∙ ap (λ l. take a bytes ++ l) (take-append-drop (b - a) (drop a bytes))
    ∙ take-append-drop a bytes
