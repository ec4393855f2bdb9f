-- What the token in hand says of the bytes from its start on. It does not unfold by itself: few functions
-- ask.
use Rattle.std.specs.Prelude.{ℕ, List}
use Rattle.shgrammar.specs.declared.token.Token.{Token}
use Rattle.shgrammar.specs.Shows.{Shows}
use Rattle.shgrammar.proofs.Shown.{shows_prop}

unfoldable pub InHand : Token → List ℕ → ℕ → Type 0
InHand token T p = Shows token T p

-- a fact: it has one value at most
pub in_hand_prop : (token : Token) (T : List ℕ) (p : ℕ) → IsProp (InHand token T p)
unfolding InHand
in_hand_prop token T p = shows_prop token T p
