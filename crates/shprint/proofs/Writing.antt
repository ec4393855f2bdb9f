-- Marks printed one after the other, and what a loop has still to print.
use Rattle.std.proofs.Common.{◌≡◌, [], ◌∷◌, ◌++◌, refl, ap, append_assoc, sym, ◌∙◌, OnOk, Result}
use Rattle.std.proofs.lemmas.List.{append-nil}
use Rattle.std.proofs.lemmas.Result.{on_ok_weaker}
use Rattle.shgrammar.specs.Characters.{newline_char}
use Rattle.shast.specs.Shape.{Text}
use Rattle.shprint.specs.Marks.{Mark, Marks, text, line_end, document, laid, laid_after, held_after}
use Rattle.shprint.specs.Written.{Sheet, sheet_of, written}

-- ---- marks, and others after them

-- they are laid down after what the first ones lay, with what waits then
pub laid_append : (h : Text) (ms ns : Marks) →
    laid_after h (ms ++ ns) ≡ laid_after h ms ++ laid_after (held_after h ms) ns
unfolding laid_after held_after
laid_append h [] ns = refl
laid_append h (text t ∷ ms) ns = rw (laid_append h ms ns, append_assoc) refl
laid_append h (line_end ∷ ms) ns = rw (laid_append [] ms ns, append_assoc) refl
laid_append h (document t ∷ ms) ns = laid_append (h ++ t) ms ns

-- what waits after both
pub held_append : (h : Text) (ms ns : Marks) → held_after h (ms ++ ns) ≡ held_after (held_after h ms) ns
unfolding held_after
held_append h [] ns = refl
held_append h (text t ∷ ms) ns = held_append h ms ns
held_append h (line_end ∷ ms) ns = held_append [] ms ns
held_append h (document t ∷ ms) ns = held_append (h ++ t) ms ns

-- ---- on a sheet

-- no marks change nothing
pub written_none : (s : Sheet) → written s [] ≡ s
unfolding written laid_after held_after
written_none s = ap (λ t. sheet_of t s.held) (append-nil s.so_far)

-- some marks and then others
pub written_append : (s : Sheet) (ms ns : Marks) → written (written s ms) ns ≡ written s (ms ++ ns)
unfolding written
written_append s ms ns = rw (laid_append s.held ms ns, held_append s.held ms ns, append_assoc) refl

-- a mark and then others
pub written_cons : (s : Sheet) (ms : Marks) (m : Mark) → written (written s (m ∷ [])) ms ≡ written s (m ∷ ms)
written_cons s ms m = written_append s (m ∷ []) ms

-- a text is written at the end
pub written_text : (s : Sheet) (x : Text) → written s (text x ∷ []) ≡ sheet_of (s.so_far ++ x) s.held
unfolding written laid_after held_after
written_text s x = ap (λ r. sheet_of (s.so_far ++ r) s.held) (append-nil x)

-- a text without a byte
pub written_nothing : (s : Sheet) (x : Text) → x ≡ [] → s ≡ written s (text x ∷ [])
written_nothing s x none = sym
    (written_text s x ∙ ap (λ t. sheet_of (s.so_far ++ t) s.held) none
    ∙ ap (λ t. sheet_of t s.held) (append-nil s.so_far))

-- the end of a line writes a newline, and what waits
pub written_line : (s : Sheet) → written s (line_end ∷ []) ≡ sheet_of ((s.so_far ++ newline_char ∷ []) ++ s.held) []
unfolding written laid_after held_after
written_line s = rw (append_assoc, append-nil) refl

-- where nothing waits
pub written_line_alone : (s : Sheet) → s.held ≡ [] →
    sheet_of (s.so_far ++ newline_char ∷ []) s.held ≡ written s (line_end ∷ [])
written_line_alone s none =
    sym (written_line s ∙ ap (λ h. sheet_of ((s.so_far ++ newline_char ∷ []) ++ h) []) none
    ∙ ap (λ t. sheet_of t []) (append-nil (s.so_far ++ newline_char ∷ []))
    ∙ ap (sheet_of (s.so_far ++ newline_char ∷ [])) (sym none))

-- a document waits
pub written_document : (s : Sheet) (x : Text) → written s (document x ∷ []) ≡ sheet_of s.so_far (s.held ++ x)
unfolding written laid_after held_after
written_document s x = ap (λ r. sheet_of r (s.held ++ x)) (append-nil s.so_far)

-- on an empty sheet
pub written_first : (ms : Marks) → written (sheet_of [] []) ms ≡ sheet_of (laid ms) (held_after [] ms)
unfolding written
written_first ms = refl

-- What the last call says of its result, which is the answer, gives what is wanted of it.
pub on_ok_then : {T E P Q : Type 0} (r : Result T E) → OnOk r P → (P → Q) → OnOk r Q
on_ok_then r given so = on_ok_weaker r so given
