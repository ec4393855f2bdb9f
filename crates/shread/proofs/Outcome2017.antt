-- The outcomes by POSIX.1-2017 are those where rows see what that edition says: a form reads the same where
-- rows see the same.
use Rattle.std.proofs.Common.{◌≡◌, ℕ, List, List as Row, drop, refl, sym}
use Rattle.shgrammar.specs.declared.edition.Edition.TheVariants.{Y2017}
use Rattle.shgrammar.specs.Form.{Form, Spelled, give, see, move, push, stop, both, when, token, loop, ends_as, change, with_bytes, a_level, in_substitution, may}
use Rattle.shgrammar.specs.Scripts.{AScript, Lines, Outcome, LinesSoFar, is_blank_line, line_ended, last_line, faulty, the_line}
use Rattle.shgrammar.specs.Sights.{Given, Sight, State, given, here, the_byte, the_piece, the_rest, the_end, a_raw, last_backslash, the_token, the_comment, is_a_name, a_document_waits, the_delimiter, seen}
use Rattle.shgrammar.proofs.Editions.{delimiter_seen, piece_seen, token_seen}
use Rattle.shgrammar.proofs.Each.{Each, each_bytes, each_either, each_ending, each_just, each_level, each_then, each_token, each_turns}
use Rattle.shread.specs.Outcome2017.{Lines_2017, Outcome_2017, line_ended as line_ended_2017, last_line as last_line_2017, faulty as faulty_2017, may_2017, seen_2017}

-- by that edition a row sees what POSIX.1-2017 itself says
same_seen : {X : Type 0} (f : Sight X) (g : Given) (s : State) → g.edition ≡ Y2017 → seen f g s ≡ seen_2017 f g s
same_seen here g s by = refl
same_seen the_byte g s by = refl
same_seen (the_piece mode n) g s by = piece_seen mode n g s by
same_seen (the_rest mode) g s by = refl
same_seen the_end g s by = refl
same_seen (a_raw c) g s by = refl
same_seen last_backslash g s by = refl
same_seen (the_token position) g s by = token_seen position g s by
same_seen the_comment g s by = refl
same_seen is_a_name g s by = refl
same_seen a_document_waits g s by = refl
same_seen (the_delimiter bytes) g s by = delimiter_seen bytes g s by

-- ---- forms

module _ (g : Given) (by : g.edition ≡ Y2017) where
  -- so what may be read by a form is what it reads where rows see that, one way and the other
  to_2017 : {X : Type 0} (r : Form X) → Each (may r g) (may_2017 r g)
  to_2017 (give x) s y k p = p
  to_2017 (see f) s y k p = each_just (same_seen f g s by) y k p
  to_2017 (move m) s y k p = p
  to_2017 (push xs x) s y k p = p
  to_2017 (stop kind at) s y k p = p
  to_2017 (both r q) s y k p = each_then (to_2017 r) (λ x. to_2017 (q x)) s y k p
  to_2017 (when f r q) s y k p = each_either (same_seen f g s by) (to_2017 r) (to_2017 q) s y k p
  to_2017 (token told r) s y k p = each_token told g (to_2017 r) s y k p
  to_2017 (loop turn a) s y k p = each_turns g (λ b. to_2017 (turn b)) a s y k p
  to_2017 (ends_as kind at r) s y k p = each_ending kind at (to_2017 r) s y k p
  to_2017 (change c) s y k p = p
  to_2017 (with_bytes r) s y k p = each_bytes g (to_2017 r) s y k p
  to_2017 (a_level r) s y k p = each_level (to_2017 r) s y k p
  to_2017 (in_substitution r) s y k p = to_2017 r s y k p

  from_2017 : {X : Type 0} (r : Form X) → Each (may_2017 r g) (may r g)
  from_2017 (give x) s y k p = p
  from_2017 (see f) s y k p = each_just (sym (same_seen f g s by)) y k p
  from_2017 (move m) s y k p = p
  from_2017 (push xs x) s y k p = p
  from_2017 (stop kind at) s y k p = p
  from_2017 (both r q) s y k p = each_then (from_2017 r) (λ x. from_2017 (q x)) s y k p
  from_2017 (when f r q) s y k p = each_either (sym (same_seen f g s by)) (from_2017 r) (from_2017 q) s y k p
  from_2017 (token told r) s y k p = each_token told g (from_2017 r) s y k p
  from_2017 (loop turn a) s y k p = each_turns g (λ b. from_2017 (turn b)) a s y k p
  from_2017 (ends_as kind at r) s y k p = each_ending kind at (from_2017 r) s y k p
  from_2017 (change c) s y k p = p
  from_2017 (with_bytes r) s y k p = each_bytes g (from_2017 r) s y k p
  from_2017 (a_level r) s y k p = each_level (from_2017 r) s y k p
  from_2017 (in_substitution r) s y k p = from_2017 r s y k p

-- ---- scripts

-- the same of the lines from p on, and of all of a script
lines_to : (B : List ℕ) (so : LinesSoFar) (p : ℕ) (s : AScript) (k : Row Spelled) → Lines Y2017 B so p s k →
    Lines_2017 B so p s k
lines_to B so p s k (line_ended {l = l} es t k1 read rest) =
    line_ended_2017 es t k1 (to_2017 (given Y2017 (drop p B) p) refl (the_line (is_blank_line so)) _ _ k1 read)
    (lines_to B _ _ s l rest)
lines_to B so p s k (last_line es t k1 read) =
    last_line_2017 es t k1 (to_2017 (given Y2017 (drop p B) p) refl (the_line (is_blank_line so)) _ _ k1 read)
lines_to B so p s k (faulty f k1 read) =
    faulty_2017 f k1 (to_2017 (given Y2017 (drop p B) p) refl (the_line (is_blank_line so)) _ _ k1 read)

lines_from : (B : List ℕ) (so : LinesSoFar) (p : ℕ) (s : AScript) (k : Row Spelled) → Lines_2017 B so p s k →
    Lines Y2017 B so p s k
lines_from B so p s k (line_ended_2017 {l = l} es t k1 read rest) =
    line_ended es t k1 (from_2017 (given Y2017 (drop p B) p) refl (the_line (is_blank_line so)) _ _ k1 read)
    (lines_from B _ _ s l rest)
lines_from B so p s k (last_line_2017 es t k1 read) =
    last_line es t k1 (from_2017 (given Y2017 (drop p B) p) refl (the_line (is_blank_line so)) _ _ k1 read)
lines_from B so p s k (faulty_2017 f k1 read) =
    faulty f k1 (from_2017 (given Y2017 (drop p B) p) refl (the_line (is_blank_line so)) _ _ k1 read)

pub outcome_to : (B : List ℕ) (s : AScript) → Outcome Y2017 B s → Outcome_2017 B s
outcome_to B s (k, read) = (k, lines_to B _ 0 s k read)

pub outcome_from : (B : List ℕ) (s : AScript) → Outcome_2017 B s → Outcome Y2017 B s
outcome_from B s (k, read) = (k, lines_from B _ 0 s k read)
