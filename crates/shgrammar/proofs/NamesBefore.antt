-- A NAME before `(`, wherever its bytes stand: it is read there as a word that is no
-- reserved one and no assignment.
use Rattle.std.proofs.Common.{◌≡◌, ℕ, zero, suc, ◌+◌, ◌-◌, ◌≤◌, ◌<◌, ◌==◌, Bool, true, false, ◌&&◌, Ok, Err, List, List as Row, [], ◌∷◌, ◌++◌, length, take, drop, Option, Some, None, slice_get, refl, sym, ap, subst, ◌∙◌, arith, ⊎_elim}
use Rattle.std.proofs.lemmas.Bool.{and_parts, both_ways, cases_Bool}
use Rattle.std.proofs.lemmas.Bool.Decides.{nat_tests}
use Rattle.std.proofs.lemmas.List.{take_at}
use Rattle.std.proofs.lemmas.Option.{slice_get_within}
use Rattle.std.proofs.Math.Bool.{and-false}
use Rattle.shgrammar.specs.Characters.{backslash}
use Rattle.shgrammar.specs.declared.keep.Keep.TheVariants.{Whole}
use Rattle.shgrammar.specs.declared.mode.Mode.TheVariants.{Plain}
use Rattle.shgrammar.specs.declared.token.Position.TheVariants.{Command}
use Rattle.shgrammar.specs.declared.token.Reserved.{Reserved}
use Rattle.shgrammar.specs.declared.token.Token.TheVariants as tokens
use Rattle.shgrammar.specs.Classes.{is_blank, is_letter, is_digit, is_name}
use Rattle.shgrammar.specs.Standing.{is_byte, passes, raw_stands}
use Rattle.shgrammar.specs.Bytes.{ends, ends_word, past, past_continuations, byte_at, past_byte, stands, stands_in}
use Rattle.shgrammar.specs.Comments.{span}
use Rattle.shgrammar.specs.Pieces.{piece_at}
use Rattle.shgrammar.specs.Plain.{is_plain}
use Rattle.shgrammar.specs.Tokens.{Spelling, is_word_at, first_of_words, reserved_words, reserved_at, begins_assignment, is_name_at, is_number, first_word, token_of, token_at}
use Rattle.shgrammar.specs.Sights.{Given, given, standing}
use Rattle.shgrammar.specs.Form.{Read, again, done, many, does}
use Rattle.shgrammar.specs.Words.{WordSoFar, word_so_far, a_piece, contents, a_word}
use Rattle.shgrammar.specs.Levels.{level, ReadsWord}
use Rattle.shast.specs.Tree.{AWord, word, no_subst}
use Rattle.shgrammar.proofs.Stretches.{past_more, past_none, stands_in_low, raw_stays}
use Rattle.shgrammar.proofs.Places.{after_low, past_low}
use Rattle.shgrammar.proofs.Turns.{many_again, many_done}
use Rattle.shgrammar.proofs.SameBytes.{Kept, Here, here, here_byte, here_after, here_stands, here_stands_in}
use Rattle.shgrammar.proofs.Ahead.{same_and, spelled_none, spelled_more, past_byte_is, ender_is_other}
use Rattle.shgrammar.proofs.PlainBytes.{plain_stays, ordinary_by, closer_at}
use Rattle.shgrammar.proofs.WordsWithin.{word_ends}
use Rattle.shgrammar.proofs.ItemsAnywhere.{ReadAt, is_a_word, ItemByte, all_plain, all_spelled, item_byte, item_token}
use Rattle.shgrammar.proofs.OneOutcome.{computed_is_only}
use Rattle.shgrammar.proofs.WordsAnywhere.{WordOf, from_to, kept_by_bytes, word_may}
use Rattle.shgrammar.proofs.Spelling.{raw_at}
use Rattle.shast.specs.Shape.{text_at}
use Rattle.shgrammar.proofs.CommentsAnywhere.{byte_after, stretch_length}
use Rattle.shgrammar.specs.declared.edition.Edition.{Edition}

-- ---- the word that a NAME is

-- a byte of a NAME is ordinary, so that it is no backslash, and a letter is such a byte
name_plain : (b : ℕ) → is_name b ≡ true → is_plain Plain b ≡ true
name_plain b e = grind (arith, nat_tests)

pub name_clear : (b : ℕ) → is_name b ≡ true → (b == backslash) ≡ false
name_clear b e = grind (arith, nat_tests)

letter_name : (b : ℕ) → is_letter b ≡ true → is_name b ≡ true
letter_name b e = rw e refl

-- the byte that passes a test
passed_byte : (test : ℕ → Bool) (x : Option ℕ) → passes test x ≡ true → (b : ℕ) × (x ≡ Some b) × (test b ≡ true)
passed_byte test None e = absurd cc
passed_byte test (Some b) e = (b, refl, e)

byte_in : (test : ℕ → Bool) (T : List ℕ) (r : ℕ) → stands_in test T r ≡ true → (b : ℕ) × (byte_at T r ≡ Some b)
    × (test b ≡ true)
unfolding stands_in
byte_in test T r e = passed_byte test (byte_at T r) e

module _ (edition : Edition) (room : ℕ) (T : List ℕ) (o opener : ℕ) where
  -- a byte of a NAME is a piece
  name_turn : (r b : ℕ) (c : WordSoFar) → byte_at T r ≡ Some b → is_name b ≡ true →
      does (a_piece (level room) Plain opener c) Whole (given edition T o) (standing r)
      ≡ Ok (again c, standing (past_byte T r))
  unfolding a_piece piece_at
  name_turn r b c is_b e = rw (is_b, ordinary_by T r Plain c.nested b (name_plain b e)) refl

  -- where a word ends its pieces do
  end_turn : (r : ℕ) (c : WordSoFar) → ends_word T r ≡ true →
      does (a_piece (level room) Plain opener c) Whole (given edition T o) (standing r) ≡ Ok (done c, standing r)
  unfolding a_piece piece_at ends_word
  end_turn r c e = rw (closer_at T r c.nested (byte_at T r) e) refl

  -- up to where the NAME ends
  names_on : (n r : ℕ) (c : WordSoFar) → length T - r < n → ends_word T (past is_name T r) ≡ true
      → does (many (a_piece (level room) Plain opener) c) Whole (given edition T o) (standing r)
      ≡ Ok (c, standing (past is_name T r))
  names_on zero r c few e = absurd (omega arith)
  names_on (suc n) r c few e =
      ⊎_elim
      (λ (f : stands_in is_name T r ≡ true). let more = past_more is_name T r f in
      let b = byte_in is_name T r f in
      let inside = stands_in_low is_name T r f in
      let high : past_byte T r ≤ length T = omega (arith, inside, past_byte_is T r) in
      many_again (a_piece (level room) Plain opener) Whole (given edition T o) c c (standing r)
      (standing (past_byte T r))
      (name_turn r b.0 c b.1 b.2) (after_low T r) high
      ∙ names_on n (past_byte T r) c (omega (arith, few, high, after_low T r))
      (subst (λ q. ends_word T q ≡ true) more e)
      ∙ ap (λ (q : ℕ). Ok (c, standing q)) (sym more))
      (λ (f : stands_in is_name T r ≡ false). let none = past_none is_name T r f in
      many_done (a_piece (level room) Plain opener) Whole (given edition T o) c c (standing r) (standing r)
      (end_turn r c (subst (λ q. ends_word T q ≡ true) none e))
      ∙ ap (λ (q : ℕ). Ok (c, standing q)) (sym none))
      (cases_Bool (stands_in is_name T r))

-- bytes of a NAME after which a word ends are read as a word without substitutions
name_is_word : (edition : Edition) → (room : ℕ) (T : List ℕ) (o p : ℕ) → ends_word T (past is_name T p) ≡ true
    → does (a_word (level room)) Whole (given edition T o) (standing p)
    ≡ Ok (word (span o p (past is_name T p)) no_subst, standing (past is_name T p))
unfolding a_word contents
name_is_word edition room T o p e =
    rw (names_on edition room T o (o + p) (suc (length T - p)) p (word_so_far 0 []) (omega arith) e) refl

-- where what was read ends
abbrev place_in : Read AWord → ℕ
place_in (Ok (w, s)) = s.at
place_in (Err f) = 0

-- a NAME begins with a letter, and a word ends after its bytes
name_parts : (T : List ℕ) (p : ℕ) → is_name_at T p ≡ true → (stands_in is_letter T p ≡ true)
    × (ends_word T (past is_name T p) ≡ true)
unfolding is_name_at
name_parts T p e = and_parts _ _ e

-- ---- what stands there

-- no word of a command is reserved that is told as a word
none_reserved : (assigns : Bool) (r : Option Reserved) → first_word assigns r ≡ tokens.Word → r ≡ None
none_reserved assigns None e = refl
none_reserved assigns (Some r) e = absurd cc

-- the first byte of a NAME is no digit
no_digit : (b : ℕ) → is_letter b ≡ true → is_digit b ≡ false
no_digit b e = grind (arith, nat_tests)

-- where these bytes stand before `(`, they are a word with which a command may begin, and a NAME
pub record NameBefore (room : ℕ) (w : List ℕ) : Type 0 where
  pub some : 0 < length w
  pub there : (g : Given) (q : ℕ) (zs : List ℕ) → drop q g.text ≡ w ++ 40 ∷ zs →
      ReadAt room Command tokens.Word w no_subst g q
  pub names : (T : List ℕ) (q : ℕ) (zs : List ℕ) → drop q T ≡ w ++ 40 ∷ zs → is_name_at T q ≡ true

module _ (room : ℕ) (g : Given) (p n : ℕ) (read : ReadsWord room g p n) (still : past_continuations g.text p ≡ p)
    (token : token_at Command g.text p ≡ tokens.Word) (name : is_name_at g.text p ≡ true) where
  -- the text, the bytes of the word, and its first byte, which is a letter
  abbrev T : List ℕ
  T = g.text

  abbrev w : List ℕ
  w = take n (drop p T)

  letter : stands_in is_letter T p ≡ true
  letter = (name_parts T p name).0

  first : (b : ℕ) × (byte_at T p ≡ Some b) × (is_letter b ≡ true)
  first = byte_in is_letter T p letter

  -- the word stands in the text, has n bytes, and ends where the bytes of its NAME do
  below : p < length T
  below = let lt = slice_get_within T (past_continuations T p) first.0 first.1 in omega (arith, lt, still)

  ended : (p + n ≤ length T) × (ends_word T (p + n) ≡ true)
  ended = word_ends room g p n read (omega (arith, below))

  end_is : past is_name T p ≡ p + n
  end_is = sym (ap place_in ((computed_is_only (a_word (level room)) g (standing p)).only _ _ read.1
      ∙ name_is_word g.edition room T g.offset p (name_parts T p name).1))

  size : length w ≡ n
  size = stretch_length T p n ended.0

  -- there is one of these at least
  begins_name : stands_in is_name T p ≡ true
  unfolding stands_in
  begins_name = ap (passes is_name) first.1 ∙ letter_name first.0 first.2

  longer : p < p + n
  longer = omega (arith, past_more is_name T p begins_name, past_low is_name T (past_byte T p), after_low T p, end_is)

  -- the token and its first byte
  token_here : token_of Command T p (Some first.0) ≡ tokens.Word
  unfolding token_at
  token_here = ap (token_of Command T p) (sym first.1) ∙ token

  parts_here : ItemByte first.0 × (is_number T p ≡ false)
  parts_here = item_byte Command T p first.0 (ap is_a_word token_here)

  -- no reserved word stands there
  not_reserved : reserved_at T p ≡ None
  not_reserved = none_reserved (begins_assignment T p) (reserved_at T p)
      (sym (item_token Command T p first.0 parts_here.0 parts_here.1) ∙ token_here)

  module _ (U : List ℕ) (q : ℕ) (zs : List ℕ) (is_there : drop q U ≡ w ++ 40 ∷ zs) where
    -- where the word ends, where each place is in the other text, and that its bytes stand there
    abbrev L : ℕ
    L = p + n

    abbrev to : ℕ → ℕ
    to = from_to p q

    K : Kept g.edition T U p L to
    K = kept_by_bytes g.edition T U p q n (ap (take n) is_there ∙ take_at w (40 ∷ zs) n size)

    -- there it stands from q on, and a `(` after it
    limit_is : to L ≡ q + n
    limit_is = omega arith

    begin_is : to p ≡ q
    begin_is = omega arith

    limit_raw : slice_get U (to L) ≡ Some 40
    limit_raw = ap (slice_get U) limit_is ∙ ap (λ m. slice_get U (q + m)) (sym size)
        ∙ byte_after U q w (40 ∷ zs) is_there

    limit_byte : byte_at U (to L) ≡ Some 40
    unfolding raw_stands
    limit_byte = ap (slice_get U) (raw_stays U (to L) (ap (λ x. is_byte x backslash) limit_raw)) ∙ limit_raw

    -- from r on the NAME goes on up to the limit
    record Goes (r : ℕ) : Type 0 where
      low : p ≤ r
      up : past is_name T r ≡ L

    -- so it does from p on
    from_begin : Goes p
    from_begin = record { low = omega arith; up = end_is }

    -- no byte of a NAME is a backslash, so that each is the same there, and after it the NAME goes on
    inside_of : {r : ℕ} → Goes r → stands_in is_name T r ≡ true → Here T U p L to r
    unfolding raw_stands
    inside_of {r = r} go e =
        let b = byte_in is_name T r e in
        let more = past_more is_name T r e in
        let lt = past_low is_name T (past_byte T r) in
        let up = go.up in
        here K r go.low (omega (arith, more, lt, up, past_byte_is T r))
        (λ f. absurd (both_ways (is_byte (slice_get T (past_continuations T r)) backslash)
        (ap (λ x. is_byte x backslash) b.1 ∙ name_clear b.0 b.2) f))

    next_goes : {r : ℕ} → Goes r → stands_in is_name T r ≡ true → Goes (past_byte T r)
    next_goes {r = r} go e = record {
      low = omega (arith, go.low, after_low T r);
      up = sym (past_more is_name T r e) ∙ go.up;
    }

    -- where no byte of a NAME is read the limit is, and at the limit there none is
    at_limit : {r : ℕ} → Goes r → stands_in is_name T r ≡ false → r ≡ L
    at_limit {r = r} go e = sym (past_none is_name T r e) ∙ go.up

    limit_none : stands_in is_name U (to L) ≡ false
    unfolding stands_in
    limit_none = ap (passes is_name) limit_byte

    -- from each of its places on the NAME ends at the limit there too
    past_there : (m r : ℕ) → length T - r < m → Goes r → past is_name U (to r) ≡ to L
    past_there zero r few go = absurd (omega arith)
    past_there (suc m) r few go =
        ⊎_elim
        (λ (e : stands_in is_name T r ≡ true). let h = inside_of go e in
        let inside = stands_in_low is_name T r e in
        past_more is_name U (to r) (here_stands_in K h is_name ∙ e) ∙ ap (past is_name U) (here_after K h)
        ∙ past_there m (past_byte T r) (omega (arith, few, inside, past_byte_is T r, after_low T r)) (next_goes go e))
        (λ (e : stands_in is_name T r ≡ false). let end = at_limit go e in
        ap (λ x. past is_name U (to x)) end ∙ past_none is_name U (to L) limit_none)
        (cases_Bool (stands_in is_name T r))

    -- its first byte is the same there, and from it on the NAME ends at the limit
    begins : Here T U p L to p
    begins = inside_of from_begin begins_name

    past_name : past is_name U (to p) ≡ to L
    past_name = past_there (suc (length T - p)) p (omega arith) from_begin

    -- ---- reserved words

    -- at the limit no ordinary byte is read, here or there
    other : (c : ℕ) → is_plain Plain c ≡ true → stands T L c ≡ false
    unfolding stands ends_word
    other c plain = none (byte_at T L) ended.1
      where
        none : (x : Option ℕ) → ends x ≡ true → is_byte x c ≡ false
        none None e = refl
        none (Some b) e = ender_is_other b c e (plain_stays c plain)

    other_there : (c : ℕ) → is_plain Plain c ≡ true → stands U (to L) c ≡ false
    unfolding stands
    other_there c plain = ap (λ x. is_byte x c) limit_byte ∙ ender_is_other 40 c refl (plain_stays c plain)

    -- a word ends, or an ordinary byte is read, in both texts or in neither
    same_ends : {r : ℕ} → Goes r → ends (byte_at U (to r)) ≡ ends (byte_at T r)
    unfolding ends_word
    same_ends {r = r} go =
        ⊎_elim (λ (e : stands_in is_name T r ≡ true). ap ends (here_byte K (inside_of go e)))
        (λ (e : stands_in is_name T r ≡ false). let end = at_limit go e in
        subst (λ x. ends (byte_at U (to x)) ≡ ends (byte_at T x)) (sym end) (ap ends limit_byte ∙ sym ended.1))
        (cases_Bool (stands_in is_name T r))

    same_stands : {r : ℕ} (c : ℕ) → is_plain Plain c ≡ true → Goes r → stands U (to r) c ≡ stands T r c
    same_stands {r = r} c plain go =
        ⊎_elim (λ (e : stands_in is_name T r ≡ true). here_stands K (inside_of go e) c)
        (λ (e : stands_in is_name T r ≡ false). let end = at_limit go e in
        subst (λ x. stands U (to x) c ≡ stands T x c) (sym end) (other_there c plain ∙ sym (other c plain)))
        (cases_Bool (stands_in is_name T r))

    -- after a byte that stands before the limit
    next_spelled : {r : ℕ} (c : ℕ) → is_plain Plain c ≡ true → Goes r → stands T r c ≡ true → Goes (past_byte T r)
        × (past_byte U (to r) ≡ to (past_byte T r))
    next_spelled {r = r} c plain go f =
        ⊎_elim (λ (e : stands_in is_name T r ≡ true). (next_goes go e, here_after K (inside_of go e)))
        (λ (e : stands_in is_name T r ≡ false). let end = at_limit go e in
        absurd (both_ways (stands T L c) (other c plain) (subst (λ x. stands T x c ≡ true) end f)))
        (cases_Bool (stands_in is_name T r))

    -- words of ordinary bytes stand there where they do here
    same_spelled : (letters : List ℕ) (r : ℕ) → all_plain letters ≡ true → Goes r →
        is_word_at U (to r) letters ≡ is_word_at T r letters
    same_spelled [] r e go = spelled_none U (to r) ∙ same_ends go ∙ sym (spelled_none T r)
    same_spelled (x ∷ xs) r e go =
        let plain = and_parts _ _ e in
        spelled_more U (to r) x xs ∙ ap (λ b. b && is_word_at U (past_byte U (to r)) xs) (same_stands x plain.0 go)
        ∙ same_and (stands T r x) _ _
        (λ f. let next = next_spelled x plain.0 go f in
        ap (λ s. is_word_at U s xs) next.1 ∙ same_spelled xs (past_byte T r) plain.1 next.0)
        ∙ sym (spelled_more T r x xs)

    same_words : (ws : Row Spelling) → all_spelled ws ≡ true → first_of_words U (to p) ws ≡ first_of_words T p ws
    unfolding first_of_words
    same_words [] e = refl
    same_words (x ∷ xs) e = let both = and_parts _ _ e in
        rw (same_spelled x.0 p both.0 from_begin, same_words xs both.1) refl

    -- so no reserved word stands there
    not_reserved_there : reserved_at U (to p) ≡ None
    unfolding reserved_words
    not_reserved_there = same_words _ refl ∙ not_reserved

    -- ---- the token and the word

    -- there no assignment and no number begins, and the token is a word
    no_assignment : begins_assignment U (to p) ≡ false
    unfolding begins_assignment stands
    no_assignment = rw (past_name, limit_byte) (and-false (stands_in is_letter U (to p)))

    no_number : is_number U (to p) ≡ false
    unfolding is_number stands_in
    no_number = rw (here_byte K begins ∙ first.1, no_digit first.0 first.2) refl

    token_there : token_at Command U (to p) ≡ tokens.Word
    unfolding token_at
    token_there =
        ap (token_of Command U (to p)) (here_byte K begins ∙ first.1)
        ∙ item_token Command U (to p) first.0 parts_here.0 no_number
        ∙ rw (no_assignment, not_reserved_there) refl

    -- it is a NAME there, and no blank
    name_there : is_name_at U (to p) ≡ true
    unfolding is_name_at ends_word
    name_there = rw (here_stands_in K begins is_letter ∙ letter, past_name, limit_byte) refl

    no_blank : (b : ℕ) → is_letter b ≡ true → is_blank b ≡ false
    no_blank b e = grind (arith, nat_tests)

    blank_there : stands_in is_blank U (to p) ≡ false
    unfolding stands_in
    blank_there = ap (passes is_blank) (here_byte K begins ∙ first.1) ∙ no_blank first.0 first.2

    -- n bytes after q it ends, and a word with it
    ends_there : ends_word U (past is_name U q) ≡ true
    unfolding ends_word
    ends_there = let there = past_name in
        ap (λ x. ends (byte_at U (past is_name U x))) (sym begin_is) ∙ rw (there, limit_byte) refl

    end_there : past is_name U q ≡ q + n
    end_there = ap (past is_name U) (sym begin_is) ∙ past_name ∙ limit_is

    -- the word that is read there has the same bytes, and no substitutions
    word_there : (edition : Edition) (o : ℕ) →
        does (a_word (level room)) Whole (given edition U o) (standing q)
        ≡ Ok (word (span o q (q + n)) no_subst, standing (q + n))
    word_there edition o = name_is_word edition room U o q ends_there
        ∙ ap (λ (x : ℕ). Ok (word (span o q x) no_subst, standing x)) end_there

    text_there : (edition : Edition) (o : ℕ) (C : List ℕ) → U ≡ drop o C → text_at C (span o q (q + n)) ≡ w
    text_there edition o C stands =
        let less : q + n - q ≡ n = omega arith in
        sym (raw_at C (given edition U o) stands q (q + n)) ∙ ap (λ m. take m (drop q U)) less ∙ ap (take n) is_there
        ∙ take_at w (40 ∷ zs) n size

    shape_there : (edition : Edition) (o : ℕ) (C : List ℕ) → U ≡ drop o C →
        WordOf room (given edition U o) q n C (word w no_subst)
    shape_there edition o C stands =
        let v = word (span o q (q + n)) no_subst in (
          v,
          (
            word_may room (given edition U o) q n v (word_there edition o),
            ap (λ t. word t no_subst) (text_there edition o C stands),
          ),
        )

  -- so it is wherever these bytes stand before `(`
  before_there : (h : Given) (q : ℕ) (zs : List ℕ) → drop q h.text ≡ w ++ 40 ∷ zs →
      ReadAt room Command tokens.Word w no_subst h q
  before_there h q zs is_there =
      let begin = begin_is h.text q zs is_there in
      record {
        place = subst (λ r. past_continuations h.text r ≡ r) begin
            ((begins h.text q zs is_there).there ∙ ap (from_to p q) still);
        no_blank = subst (λ r. stands_in is_blank h.text r ≡ false) begin (blank_there h.text q zs is_there);
        token_is = subst (λ r. token_at Command h.text r ≡ tokens.Word) begin (token_there h.text q zs is_there);
        word = λ C stands. subst (λ m. WordOf room h q m C (word w no_subst)) (sym size)
            (shape_there h.text q zs is_there h.edition h.offset C stands);
      }

  names_there : (U : List ℕ) (q : ℕ) (zs : List ℕ) → drop q U ≡ w ++ 40 ∷ zs → is_name_at U q ≡ true
  names_there U q zs is_there =
      subst (λ r. is_name_at U r ≡ true) (begin_is U q zs is_there) (name_there U q zs is_there)

  before : NameBefore room w
  before = record { some = omega (arith, size, longer); there = before_there; names = names_there }

-- a NAME where a command may begin is one before `(`, wherever its bytes stand
pub name_before : (room : ℕ) (g : Given) (p n : ℕ) → ReadsWord room g p n → past_continuations g.text p ≡ p →
    token_at Command g.text p ≡ tokens.Word → is_name_at g.text p ≡ true
    → NameBefore room (take n (drop p g.text))
name_before room g p n read still token name = before room g p n read still token name
