use Rattle.std.proofs.Common.{rules, ◌≡◌, ℕ, true, List, sym, refl, ap, ◌∙◌, arith}
use Rattle.shgrammar.specs.Bytes.{is_broken_at, past_blanks}
use Rattle.shgrammar.specs.Classes.{is_blank}
use Rattle.shgrammar.specs.Standing.{continues, raw_in, raw_past}
use Rattle.shgrammar.proofs.Shown.{shown_in}
use Rattle.shgrammar.proofs.Unbroken.{blanks_on, blanks_stop_raw}
use Rattle.shline.specs.InHand.{InHand}
use Rattle.shline.specs.Clauses.{here_of, on, text_of}
use Rattle.shline.proofs.cursor.Cursor.next_token_joined.Goals as goal

-- a continuation ends the first blanks: the token stands after what follows it
joined : (T : List ℕ) (p e : ℕ) → e ≡ raw_past is_blank T p → continues T e ≡ true
    → (past_blanks T e ≡ past_blanks T p) × (is_broken_at T p ≡ true)
unfolding is_broken_at past_blanks
joined T p e is here = (ap (past_blanks T) is ∙ sym (blanks_on T p), ap (continues T) (sym is) ∙ here)

pub past_broken_blanks-at-requires : goal.past_broken_blanks-at-requires
past_broken_blanks-at-requires g c =
    let T = text_of c.args.self.now in (
      omega arith,
      (
        c.requires.end.1.1,
        ap (raw_in is_blank T) c.requires.end.0 ∙ blanks_stop_raw T (here_of c.args.self.now),
      ),
    )

pub returns : goal.returns
returns g c =
    let blanks = joined (text_of c.args.self.now) (here_of c.args.self.now)
    (on c.args.self.now c.args.end) c.requires.end.0 c.requires.joined in record {
      next = rw (c.token-token.ensures, c.past_broken_blanks-at.ensures.0, blanks.0, blanks.1) refl;
      start = c.past_broken_blanks-at.ensures.0 ∙ blanks.0;
      onward = omega (arith, c.requires.end.1, c.past_broken_blanks-at.ensures.1);
      stays = search rules;
    }

pub invariant_of-self-clause-shows : goal.invariant_of-self-clause-shows
unfolding InHand
invariant_of-self-clause-shows g c =
    let T = text_of c.args.self.now in
    let blanks = joined T (here_of c.args.self.now)
    (on c.args.self.now c.args.end) c.requires.end.0 c.requires.joined in
    rw (c.token-token.ensures, c.past_broken_blanks-at.ensures.0, blanks.0)
    (shown_in c.args.self.now.how.edition c.args.position T (here_of c.args.self.now))
