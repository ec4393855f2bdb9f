use Rattle.std.proofs.Common.{rules, ◌≡◌, ℕ, false, List, sym, refl, ◌∙◌, arith}
use Rattle.shgrammar.specs.Bytes.{is_broken_at, past_blanks}
use Rattle.shgrammar.specs.Classes.{is_blank}
use Rattle.shgrammar.specs.Standing.{continues, raw_past}
use Rattle.shgrammar.proofs.Shown.{shown_in}
use Rattle.shgrammar.proofs.Stretches.{joined_none}
use Rattle.shgrammar.proofs.Unbroken.{blanks_whole}
use Rattle.shline.specs.InHand.{InHand}
use Rattle.shline.specs.Clauses.{here_of, on, text_of}
use Rattle.shline.proofs.cursor.Cursor.next_token_near.Goals as goal

-- no continuation among the blanks
whole : (T : List ℕ) (p e : ℕ) → e ≡ raw_past is_blank T p → continues T e ≡ false → (past_blanks T p ≡ e)
    × (is_broken_at T p ≡ false)
unfolding is_broken_at
whole T p e is none =
    let here : continues T (raw_past is_blank T p) ≡ false = rw is at none in
    (blanks_whole T p here ∙ sym is, here)

pub token-token-requires : goal.token-token-requires
token-token-requires g c =
    let T = text_of c.args.self.now in
    let none = sym c.continues_with.ensures ∙ c.if-continues_with.false in (
      omega arith,
      (
        (
          c.raw_past_and_byte-at.ensures.place.1.1,
          joined_none T (on c.args.self.now c.raw_past_and_byte-at.result.0) none,
        ),
        c.raw_past_and_byte-at.ensures.byte,
      ),
    )

pub returns : goal.returns
returns g c =
    let T = text_of c.args.self.now in
    let none = sym c.continues_with.ensures ∙ c.if-continues_with.false in
    let blanks = whole T (here_of c.args.self.now)
    (on c.args.self.now c.raw_past_and_byte-at.result.0) c.raw_past_and_byte-at.ensures.place.0 none in record {
      next = rw (blanks.0, blanks.1, c.token-token.ensures) refl;
      start = sym blanks.0;
      onward = omega (arith, c.raw_past_and_byte-at.ensures.place.1);
      stays = search rules;
    }

pub invariant_of-self-clause-shows : goal.invariant_of-self-clause-shows
unfolding InHand
invariant_of-self-clause-shows g c =
    let T = text_of c.args.self.now in
    let none = sym c.continues_with.ensures ∙ c.if-continues_with.false in
    let blanks = whole T (here_of c.args.self.now)
    (on c.args.self.now c.raw_past_and_byte-at.result.0) c.raw_past_and_byte-at.ensures.place.0 none in
    rw (c.token-token.ensures, ← blanks.0)
    (shown_in c.args.self.now.how.edition c.args.position T (here_of c.args.self.now))
