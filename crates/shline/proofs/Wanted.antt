-- Where memory is wanted: for a tree, or for a here-document.
use Rattle.std.proofs.Common.{◌≡◌, ℕ, ◌<◌, ◌==◌, ◌||◌, Bool, true, false, List, [], ◌∷◌, Option, Some, None, drop, length, map, slice_get, zero, suc, refl, ap, ◌∙◌, arith}
use Rattle.std.proofs.lemmas.Bool.{or_right}
use Rattle.std.proofs.lemmas.List.Folds.{list_any_at}
use Rattle.std.proofs.lemmas.Option.{get_or_from_slice_get, slice_get_within}
use Rattle.std.specs.List.{list_any}
use Rattle.shgrammar.specs.Characters.{less_than_sign}
use Rattle.shast.specs.declared.tree.Comment.{Comment}
use Rattle.shast.specs.declared.tree.RedirectOperator.{RedirectOperator}
use Rattle.shast.specs.Tree.{ACommand, Items, compound, function, simple, with_redirects}
use Rattle.shast.specs.View.{view_comment}
use Rattle.shgrammar.specs.declared.token.Token.{Token}
use Rattle.shgrammar.specs.Commands.{redirect_operator_of, takes_here}
use Rattle.shgrammar.specs.declared.token.Token.TheVariants as tokens
use Rattle.shgrammar.specs.Shows.{IsRead, Shows}
use Rattle.shgrammar.specs.Tokens.{is_end}
use Rattle.shgrammar.specs.Standing.{is_byte, raw_stands}
use Rattle.shline.specs.Clauses.{is_compound}
use Rattle.shline.specs.Limits.{wants_memory}

-- a `<` at p is one in the text
byte_some : (T : List ℕ) (p : ℕ) (b : Option ℕ) → slice_get T p ≡ b → is_byte b less_than_sign ≡ true →
    list_any (λ b. b == less_than_sign) T ≡ true
byte_some T p None is e = absurd cc
byte_some T p (Some c) is e = list_any_at (λ b. b == less_than_sign) T p 0 (slice_get_within T p c is)
    (ap (λ z. z == less_than_sign) (get_or_from_slice_get T p c 0 is) ∙ e)

-- the operator of a here-document stands in the text
pub here_wants : (k : ℕ) (T : List ℕ) (token : Token) (p : ℕ) (o : RedirectOperator) → Shows token T p →
    redirect_operator_of token ≡ Some o → takes_here o ≡ true → wants_memory k T ≡ true
unfolding raw_stands
here_wants k T token p o shows is takes = or_right _ _ (byte_some T p _ refl (shows.here o is takes))

-- the token of a redirection's operator is not the end
is_operator : (token : Token) (o : RedirectOperator) → redirect_operator_of token ≡ Some o → is_end token ≡ false
is_operator (tokens.Redirect p) o is = refl
is_operator _ o is = absurd cc

-- the operator of a redirection is a byte at least
pub operator_read : (T : List ℕ) (token : Token) (p : ℕ) (o : RedirectOperator) → Shows token T p →
    redirect_operator_of token ≡ Some o → IsRead T p
operator_read T token p o shows is = shows.read (is_operator token o is)

-- where comments are kept, and are none without a tree, there is a tree, whatever x is
kept_by : (tree x : Bool) (cs : List Comment) → (tree ≡ false → map view_comment cs ≡ []) → 0 < length cs →
    (tree || x) ≡ true
kept_by true x cs none some = refl
kept_by false x [] none some = absurd (omega (arith, some))
kept_by false x (c ∷ cs) none some = let is = none refl in absurd cc

-- comments are there for a tree alone
pub kept_some : (k : ℕ) (T : List ℕ) (cs : List Comment) → ((k == 1) ≡ false → map view_comment cs ≡ []) → 0 < length cs
    → wants_memory k T ≡ true
kept_some k T cs none some = kept_by (k == 1) _ cs none some

-- redirections make no other kind of a command
pub same_kind : (c : ACommand) (redirects : Items) → is_compound (with_redirects c redirects) ≡ is_compound c
same_kind (simple is) redirects = refl
same_kind (compound c) redirects = refl
same_kind (function f cs b) redirects = refl

-- what stands after a place stands in the text
pub seen_after : (T : List ℕ) (n : ℕ) → list_any (λ b. b == less_than_sign) (drop n T) ≡ true →
    list_any (λ b. b == less_than_sign) T ≡ true
seen_after T zero so = so
seen_after [] (suc n) so = absurd cc
seen_after (b ∷ T) (suc n) so = or_right _ _ (seen_after T n so)
