-- Loops over the turns of a row: a turn that goes on, the last one, and a token that no turn takes.
use Rattle.std.proofs.Common.{◌≡◌, ◌≤◌, ◌∙◌, ℕ, Bool, true, false, Ok, length, refl, sym, arith}
use Rattle.shline.specs.declared.cursor.Cursor.{Cursor}
use Rattle.shline.specs.Clauses.{at_token, given_of, keep_of, Keeps, Leads, Rests, start_of, text_of, Turns}
use Rattle.shgrammar.specs.Form.{Form, Step, does, done, many}
use Rattle.shgrammar.specs.Commands.{is_pipe, is_word}
use Rattle.shgrammar.specs.declared.token.Token.{Token}
use Rattle.shgrammar.specs.declared.token.Token.TheVariants as tokens
use Rattle.shgrammar.proofs.Turns.{many_again, many_done}

-- what stayed over two steps
over : {S : Type 0} {k : ℕ} {g : _} (start now new : Cursor S k g) → Keeps start now → Keeps now new → Keeps start new
over start now new first second = record {
  source = second.source ∙ first.source;
  base = second.base ∙ first.base;
  origin = second.origin ∙ first.origin;
  how = second.how ∙ first.how;
}

-- from the start of a loop to the token before a turn, and by that turn to another token
module _ {S A : Type 0} {k : ℕ} {g : _} (start now new : Cursor S k g) (turn : A → Form (Step A)) (first a b : A)
  where
    -- what is left to be read before the turn
    abbrev pub Left : Type 0
    Left = Rests start (many turn first) (at_token start) (many turn a) (at_token now) now

    -- a turn after which another may follow
    pub loop_again : {more : Bool} → more ≡ true → Left → Turns now (turn a) (Ok more) b new
        → Rests start (many turn first) (at_token start) (many turn b) (at_token new) new
    loop_again {more = false} is left one = absurd (cc)
    loop_again {more = true} is left one =
        let kept = left.same in
        let read = rw (kept.source, kept.base, kept.origin, kept.how) at one.read in
        let within : start_of new ≤ length (text_of start) =
        rw (sym kept.source, sym kept.base, sym one.same.source, sym one.same.base) new.within in record {
          read =
              sym (many_again turn (keep_of start) (given_of start) a b (at_token now) (at_token new) read one.onward
              within) ∙ left.read;
          onward = omega (arith, left.onward, one.onward);
          same = over start now new kept one.same;
        }

    -- and one after which none does
    pub loop_done : {more : Bool} → more ≡ false → Left → Turns now (turn a) (Ok more) b new
        → Leads start (many turn first) (at_token start) b (at_token new) new
    loop_done {more = true} is left one = absurd (cc)
    loop_done {more = false} is left one =
        let kept = left.same in
        let read = rw (kept.source, kept.base, kept.origin, kept.how) at one.read in record {
          read = sym left.read ∙ many_done turn (keep_of start) (given_of start) a b (at_token now) (at_token new) read;
          onward = omega (arith, left.onward, one.onward);
          same = over start now new kept one.same;
        }

-- ---- a token that no turn takes

-- a token that is no `|`, and one that is no word
pub not_pipe : (token : Token) → (token ≡ tokens.Pipe → ⊥) → is_pipe token ≡ false
not_pipe tokens.Pipe never = absurd (never refl)
not_pipe _ never = refl

pub not_word : (token : Token) → (token ≡ tokens.Word → ⊥) → is_word token ≡ false
not_word tokens.Word never = absurd (never refl)
not_word _ never = refl

-- from the start of a loop to such a token
module _ {S A : Type 0} {k : ℕ} {g : _} (start now : Cursor S k g) (turn : A → Form (Step A)) (first a : A)
  where
    pub loop_over : Rests start (many turn first) (at_token start) (many turn a) (at_token now) now →
        does (turn a) (keep_of start) (given_of start) (at_token now) ≡ Ok (done a, at_token now)
        → Leads start (many turn first) (at_token start) a (at_token now) now
    loop_over left one = record {
      read = sym left.read ∙ many_done turn (keep_of start) (given_of start) a a (at_token now) (at_token now) one;
      onward = left.onward;
      same = left.same;
    }
