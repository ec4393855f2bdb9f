-- Texts without a newline.
use Rattle.std.proofs.Common.{◌≡◌, ℕ, false, List, [], ◌∷◌, ◌++◌, None, Some, refl, sym, ap, ◌∙◌, append_assoc, append-nil}
use Rattle.shsource.specs.Text.{is_newline}
use Rattle.shlive.specs.Requests.{Lined, first_line, with_text_before}
use Rattle.shlive.specs.Lines.{IsInLine}

-- two texts before a line are one
after_both : (t u : List ℕ) (l : Lined) → with_text_before t (with_text_before u l) ≡ with_text_before (t ++ u) l
after_both t u None = refl
after_both t u (Some (line, rest)) = ap (λ l. Some (l, rest)) (sym (append_assoc t u line))

-- one byte more that is no newline brings none
pub in_line_more : (text : List ℕ) (b : ℕ) → IsInLine text → is_newline b ≡ false → IsInLine (text ++ b ∷ [])
in_line_more text b p other rest =
    let here : first_line (b ∷ rest) ≡ with_text_before (b ∷ []) (first_line rest) = rw other refl in
    ap first_line (append_assoc text (b ∷ []) rest) ∙ p (b ∷ rest) ∙ ap (with_text_before text) here
    ∙ after_both text (b ∷ []) (first_line rest)

-- a newline ends its line
pub line_ends : (text rest : List ℕ) → IsInLine text → first_line ((text ++ 10 ∷ []) ++ rest) ≡ Some (text, rest)
line_ends text rest p = ap first_line (append_assoc text (10 ∷ []) rest) ∙ p (10 ∷ rest)
    ∙ ap (λ l. Some (l, rest)) (append-nil text)

-- where nothing follows, no newline ends it
pub line_open : (text : List ℕ) → IsInLine text → first_line text ≡ None
line_open text p = ap first_line (sym (append-nil text)) ∙ p []
