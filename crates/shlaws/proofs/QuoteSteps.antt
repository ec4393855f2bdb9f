-- What quote removal byte by byte makes of each piece, and whether it finds text in dollar-single quotes.
use Rattle.std.proofs.Common.{◌≡◌, ℕ, suc, ◌+◌, ◌-◌, ◌<◌, ◌==◌, Bool, true, false, cond, not, List, [], ◌∷◌, ◌++◌, length, take, drop, slice_get, Option, Some, None, refl, sym, ap, ◌∙◌, arith, append_assoc, drop-drop}
use Rattle.std.specs.Prelude.{◌&&◌, ◌||◌}
use Rattle.std.proofs.lemmas.Bool.{and_from, and_right, false_from_ne_true}
use Rattle.std.proofs.lemmas.List.{length-drop}
use Rattle.shgrammar.specs.declared.mode.Mode.{Mode}
use Rattle.shgrammar.specs.declared.mode.Mode.TheVariants.{Plain, Double, Brace, DoubleBrace, Arith}
use Rattle.shgrammar.specs.Bytes.{byte_at, count_joined, past_byte, past_continuations, stands}
use Rattle.shgrammar.specs.Characters.{dollar_sign, grave_accent, backslash, newline_char, apostrophe, left_parenthesis, left_brace, quotation_mark}
use Rattle.shgrammar.specs.Form.{raw}
use Rattle.shgrammar.specs.HereDocuments.{Quoting, after_quote, byte_left, escape_left, has_dollar_single, in_double, in_single, is_live, is_quote, left_before, not_quoted, unquoted}
use Rattle.shgrammar.specs.Pieces.{next_quote}
use Rattle.shgrammar.specs.Standing.{at_end, continues, count_front, is_byte, raw_past, raw_stands}
use Rattle.shgrammar.specs.Unquoting.{left_of}
use Rattle.shgrammar.proofs.Places.{not_end_low, place_same}
use Rattle.shgrammar.proofs.PlainDelimiters.{left_more}
use Rattle.shgrammar.proofs.Stretches.{drop_here, joined_more, place_low}
use Rattle.shgrammar.proofs.Unquoted.{rest_stands, unquoted_byte, unquoted_escape}
use Rattle.shlaws.specs.Quotes.{escape_leaves}
use Rattle.shlaws.proofs.PieceBytes.{is_unquoted, quoting_in}

-- ---- text, and what is left after it

-- no text before what is left is no change
pub nothing_more : (left : Option (List ℕ)) → left_of [] left ≡ left
nothing_more None = refl
nothing_more (Some bs) = refl

-- two texts before what is left are one text before it
pub both_left : (one two : List ℕ) (left : Option (List ℕ))
    → left_of one (left_of two left) ≡ left_of (one ++ two) left
both_left one two None = refl
both_left one two (Some bs) = ap (λ (l : List ℕ). Some l) (sym (append_assoc one two bs))

-- ---- what is live

-- outside quotes and in double quotes a byte is special just where it is the byte asked for
live_in : (mode : Mode) (c b : ℕ) → is_live (quoting_in mode) c b ≡ (b == c)
live_in Plain c b = refl
live_in Double c b = refl
live_in Brace c b = refl
live_in DoubleBrace c b = refl
live_in Arith c b = refl

-- there neither a `$` nor a backquote is a quote
dollar_no_quote : (mode : Mode) → is_quote (quoting_in mode) dollar_sign ≡ false
dollar_no_quote Plain = refl
dollar_no_quote Double = refl
dollar_no_quote Brace = refl
dollar_no_quote DoubleBrace = refl
dollar_no_quote Arith = refl

tick_no_quote : (mode : Mode) → is_quote (quoting_in mode) grave_accent ≡ false
tick_no_quote Plain = refl
tick_no_quote Double = refl
tick_no_quote Brace = refl
tick_no_quote DoubleBrace = refl
tick_no_quote Arith = refl

-- ---- continuations are dropped

-- after n bytes stands what stands after 2 + n, with two bytes more in front
drop_two : {A : Type 0} (f : List ℕ → A) (b c : ℕ) (bs : List ℕ) (n : ℕ)
    → f (drop n bs) ≡ f (drop (2 + n) (b ∷ c ∷ bs))
drop_two f b c bs n =
    let next : 2 + n ≡ suc (suc n) = omega arith in
    ap (λ k. f (drop k (b ∷ c ∷ bs))) (sym next)

module _ (q : Quoting) (second : Bool) (live : (c b : ℕ) → is_live q c b ≡ (b == c)) where
  -- quote removal leaves the same without the continuations in front: of two bytes and more, and of any
  skip_by : (b c : ℕ) (bs : List ℕ) → unquoted q second bs ≡ unquoted q second (drop (count_joined bs) bs)
      → (x y : Bool) → (b == backslash) ≡ x → (c == newline_char) ≡ y
      → unquoted q second (b ∷ c ∷ bs) ≡ unquoted q second
      (drop (cond (x && y) (2 + count_joined bs) 0) (b ∷ c ∷ bs))
  skip_by b c bs rest true true e f =
      let dropped : escape_left q c (unquoted q second bs) ≡ unquoted q second bs = rw f refl in
      unquoted_escape q second b c bs (live backslash b ∙ e) ∙ dropped ∙ rest
      ∙ drop_two (unquoted q second) b c bs (count_joined bs)
  skip_by b c bs rest true false e f = refl
  skip_by b c bs rest false y e f = refl

  skip : (xs : List ℕ) → unquoted q second xs ≡ unquoted q second (drop (count_joined xs) xs)
  unfolding count_joined
  skip [] = refl
  skip (b ∷ []) = refl
  skip (b ∷ c ∷ bs) = skip_by b c bs (skip bs) (b == backslash) (c == newline_char) refl refl

  -- text in dollar-single quotes is found the same without them
  has_skip_by : (b c : ℕ) (bs : List ℕ)
      → has_dollar_single q second bs ≡ has_dollar_single q second (drop (count_joined bs) bs) → (x y : Bool)
      → (b == backslash) ≡ x → (c == newline_char) ≡ y
      → has_dollar_single q second (b ∷ c ∷ bs) ≡ has_dollar_single q second
      (drop (cond (x && y) (2 + count_joined bs) 0) (b ∷ c ∷ bs))
  unfolding has_dollar_single
  has_skip_by b c bs rest true true e f =
      let is : is_live q backslash b ≡ true = live backslash b ∙ e in
      let dropped : has_dollar_single q second (b ∷ c ∷ bs) ≡ has_dollar_single q second bs = rw is refl in
      dropped ∙ rest ∙ drop_two (has_dollar_single q second) b c bs (count_joined bs)
  has_skip_by b c bs rest true false e f = refl
  has_skip_by b c bs rest false y e f = refl

  has_skip : (xs : List ℕ)
      → has_dollar_single q second xs ≡ has_dollar_single q second (drop (count_joined xs) xs)
  unfolding count_joined
  has_skip [] = refl
  has_skip (b ∷ []) = refl
  has_skip (b ∷ c ∷ bs) = has_skip_by b c bs (has_skip bs) (b == backslash) (c == newline_char) refl refl

-- ---- the byte that is read at a place

-- what continuations in front do not change is, from p on, that of the byte read there and of the rest
read_on : {A : Type 0} (f : List ℕ → A) → ((xs : List ℕ) → f xs ≡ f (drop (count_joined xs) xs))
    → (W : List ℕ) (p b : ℕ) → byte_at W p ≡ Some b → f (drop p W) ≡ f (b ∷ drop (past_byte W p) W)
unfolding past_continuations past_byte
read_on f same W p b is =
    same (drop p W)
    ∙ ap f (drop-drop (count_joined (drop p W)) p W ∙ drop_here W (past_continuations W p) b is)

-- and what is looked for after it
abbrev turn : Quoting → Bool → ℕ → List ℕ → Bool
turn q second b rest = cond (is_quote q b) (has_dollar_single (after_quote q b) false rest)
    (cond (is_live q dollar_sign b)
    ((not second && is_quote q apostrophe && stands rest 0 apostrophe) || has_dollar_single q
    (not second && stands rest 0 dollar_sign) rest)
    (has_dollar_single q second rest))

-- the last byte begins no text in dollar-single quotes, whichever byte it is
none_there : (c d x : Bool) → false ≡ cond c false (cond d ((x && false) || false) false)
none_there true d x = refl
none_there false true true = refl
none_there false true false = refl
none_there false false x = refl

-- what is found from a byte on is found by that byte, where no backslash escapes the next one
has_byte : (q : Quoting) (second : Bool) (b : ℕ) (rest : List ℕ) → is_live q backslash b ≡ false
    → has_dollar_single q second (b ∷ rest) ≡ turn q second b rest
unfolding has_dollar_single stands
has_byte q second b [] none = none_there (is_quote q b) (is_live q dollar_sign b) (not second && is_quote q apostrophe)
has_byte q second b (c ∷ bs) none = rw none refl

-- ---- text in single quotes

-- this byte is no single quote
abbrev no_quote : ℕ → Bool
no_quote b = not (b == apostrophe)

-- in single quotes each byte is left by itself, a backslash too
single_byte : (b : ℕ) (bs : List ℕ)
    → unquoted in_single false (b ∷ bs) ≡ byte_left in_single false b bs (λ r s. unquoted r s bs)
single_byte b bs = unquoted_byte in_single false b bs (and_right _ _ refl)

-- in single quotes k bytes are left as they stand; after one more, all is left and found as outside quotes
abbrev SingleLeaves : List ℕ → ℕ → Type 0
SingleLeaves xs k =
    (unquoted in_single false xs ≡ left_of (take k xs) (unquoted not_quoted false (drop (k + 1) xs)))
    × (has_dollar_single in_single false xs ≡ has_dollar_single not_quoted false (drop (k + 1) xs))

-- so it is of a byte that closes them, and of any other before bytes of which it is so
single_by : (b : ℕ) (bs : List ℕ) (t : Bool) → (b == apostrophe) ≡ t
    → (t ≡ false → SingleLeaves bs (count_front no_quote bs))
    → SingleLeaves (b ∷ bs) (cond (not t) (1 + count_front no_quote bs) 0)
single_by b bs true e rest =
    let quoted : byte_left in_single false b bs (λ r s. unquoted r s bs) ≡ unquoted not_quoted false bs =
    rw e refl in
    let found : turn in_single false b bs ≡ has_dollar_single not_quoted false bs = rw e refl in (
      single_byte b bs ∙ quoted ∙ sym
          (nothing_more (unquoted not_quoted false bs)),
      has_byte in_single false b bs refl ∙ found,
    )
single_by b bs false e rest =
    let k = count_front no_quote bs in
    let stays : byte_left in_single false b bs (λ r s. unquoted r s bs) ≡ left_before b
    (unquoted in_single false bs) =
    rw e refl in
    let next : 1 + k ≡ suc k = omega arith in
    let more : suc k + 1 ≡ suc (k + 1) = omega arith in
    let found : turn in_single false b bs ≡ has_dollar_single in_single false bs = rw e refl in
    rw (next, more) (
      single_byte b bs ∙ stays ∙ ap (left_before b) (rest refl).0
          ∙ left_more b (take k bs) (unquoted not_quoted false (drop (k + 1) bs)),
      has_byte in_single false b bs refl ∙ found ∙ (rest refl).1,
    )

-- so it is up to the next single quote, where one stands
single_run : (xs : List ℕ) → count_front no_quote xs < length xs → SingleLeaves xs (count_front no_quote xs)
unfolding count_front
single_run [] lt = absurd (omega arith)
single_run (b ∷ bs) lt = single_by b bs (b == apostrophe) refl (λ e. single_run bs (shorter (b == apostrophe) e lt))
  where
    shorter : (t : Bool) → t ≡ false → cond (not t) (1 + count_front no_quote bs) 0 < suc (length bs)
        → count_front no_quote bs < length bs
    shorter true is less = absurd cc
    shorter false is less = omega arith

-- ---- pieces

-- From p on in one quoting is left this text, and then what is left from m on in another. Text in
-- dollar-single quotes is found from p on as it is from m on.
pub record Leads (later : Bool) (W : List ℕ) (q : Quoting) (p : ℕ) (text : List ℕ) (r : Quoting) (m : ℕ)
    : Type 0 where
  pub left : unquoted q false (drop p W) ≡ left_of text (unquoted r false (drop m W))
  pub found : later ≡ true → has_dollar_single q false (drop p W) ≡ has_dollar_single r false (drop m W)

-- from p up to p no byte is left
pub leads_nowhere : (later : Bool) (W : List ℕ) (q : Quoting) (p : ℕ) → Leads later W q p [] q p
leads_nowhere later W q p = record { left = sym (nothing_more _); found = λ e. refl }

-- what leads from p to m, and on to n, leads from p to n with both texts
pub leads_on : (later : Bool) (W : List ℕ) (q r s : Quoting) (p m n : ℕ) (one two : List ℕ)
    → Leads later W q p one r m → Leads later W r m two s n → Leads later W q p (one ++ two) s n
leads_on later W q r s p m n one two a b = record {
  left = a.left ∙ ap (left_of one) b.left ∙ both_left one two (unquoted s false (drop n W));
  found = λ e. a.found e ∙ b.found e;
}

module _ (later : Bool) (W : List ℕ) where
  -- what is left from p on, and what is found there, is by the byte that is read at p and those after it
  unquoted_on : (mode : Mode) (second : Bool) (p b : ℕ) → byte_at W p ≡ Some b
      → unquoted (quoting_in mode) second (drop p W) ≡ unquoted (quoting_in mode) second
      (b ∷ drop (past_byte W p) W)
  unquoted_on mode second p b is =
      read_on (unquoted (quoting_in mode) second) (skip (quoting_in mode) second (live_in mode)) W p b is

  has_on : (mode : Mode) (second : Bool) (p b : ℕ) → byte_at W p ≡ Some b
      → has_dollar_single (quoting_in mode) second (drop p W) ≡ has_dollar_single (quoting_in mode) second
      (b ∷ drop (past_byte W p) W)
  has_on mode second p b is =
      read_on (has_dollar_single (quoting_in mode) second)
      (has_skip (quoting_in mode) second (live_in mode)) W p b is

  -- a byte that is no backslash
  byte_on : (mode : Mode) (second : Bool) (p b : ℕ) → byte_at W p ≡ Some b → (b == backslash) ≡ false
      → unquoted (quoting_in mode) second (drop p W) ≡ byte_left (quoting_in mode) second b
      (drop (past_byte W p) W) (λ r s. unquoted r s (drop (past_byte W p) W))
  byte_on mode second p b is other =
      unquoted_on mode second p b is
      ∙ unquoted_byte (quoting_in mode) second b (drop (past_byte W p) W)
      (and_right _ _ (live_in mode backslash b ∙ other))

  has_byte_on : (mode : Mode) (second : Bool) (p b : ℕ) → byte_at W p ≡ Some b → (b == backslash) ≡ false
      → has_dollar_single (quoting_in mode) second (drop p W) ≡ turn (quoting_in mode) second b
      (drop (past_byte W p) W)
  has_byte_on mode second p b is other =
      has_on mode second p b is
      ∙ has_byte (quoting_in mode) second b (drop (past_byte W p) W) (live_in mode backslash b ∙ other)

  -- a byte that is not special and no quote is left
  pub another_leads : (mode : Mode) (p b : ℕ) → byte_at W p ≡ Some b → (b == backslash) ≡ false →
      (b == grave_accent) ≡ false
      → (b == dollar_sign) ≡ false → is_quote (quoting_in mode) b ≡ false
      → Leads later W (quoting_in mode) p (b ∷ []) (quoting_in mode) (past_byte W p)
  another_leads mode p b is no_backslash no_tick no_dollar unquoting =
      let q = quoting_in mode in
      let rest = drop (past_byte W p) W in
      let tick : is_live q grave_accent b ≡ false = live_in mode grave_accent b ∙ no_tick in
      let dollar : is_live q dollar_sign b ≡ false = live_in mode dollar_sign b ∙ no_dollar in
      let stays : byte_left q false b rest (λ r s. unquoted r s rest) ≡ left_of (b ∷ [])
      (unquoted q false rest) =
      rw (unquoting, tick, dollar) refl in
      let on : turn q false b rest ≡ has_dollar_single q false rest = rw (unquoting, dollar) refl in
      record {
        left = byte_on mode false p b is no_backslash ∙ stays;
        found = λ e. has_byte_on mode false p b is no_backslash ∙ on;
      }

  -- a `$` that begins no other piece is left
  pub dollar_leads : (mode : Mode) (p : ℕ) → byte_at W p ≡ Some dollar_sign
      → is_byte (byte_at W (past_byte W p)) dollar_sign ≡ false →
      is_byte (byte_at W (past_byte W p)) left_parenthesis ≡ false
      → is_byte (byte_at W (past_byte W p)) left_brace ≡ false
      → (later ≡ true → (is_quote (quoting_in mode) apostrophe && is_byte (byte_at W (past_byte W p)) apostrophe) ≡
      false)
      → Leads later W (quoting_in mode) p (dollar_sign ∷ []) (quoting_in mode) (past_byte W p)
  dollar_leads mode p is no_dollar no_open no_brace no_quoted =
      let q = quoting_in mode in
      let rest = drop (past_byte W p) W in
      let tick : is_live q grave_accent dollar_sign ≡ false = live_in mode grave_accent dollar_sign in
      let live : is_live q dollar_sign dollar_sign ≡ true = live_in mode dollar_sign dollar_sign in
      let one : stands rest 0 left_parenthesis ≡ false = rest_stands W (past_byte W p) left_parenthesis ∙ no_open in
      let two : stands rest 0 left_brace ≡ false = rest_stands W (past_byte W p) left_brace ∙ no_brace in
      let three : stands rest 0 dollar_sign ≡ false = rest_stands W (past_byte W p) dollar_sign ∙ no_dollar in
      let stays : byte_left q false dollar_sign rest (λ r s. unquoted r s rest) ≡ left_of (dollar_sign ∷ [])
      (unquoted q false rest) =
      rw (dollar_no_quote mode, tick, live, one, two, three) refl in
      let on : (later ≡ true) → turn q false dollar_sign rest ≡ has_dollar_single q false rest = λ e.
      let lone : (is_quote q apostrophe && stands rest 0 apostrophe) ≡ false =
      ap (λ c. is_quote q apostrophe && c) (rest_stands W (past_byte W p) apostrophe) ∙ no_quoted e in
      rw (dollar_no_quote mode, live, lone, three) refl in
      record {
        left = byte_on mode false p dollar_sign is refl ∙ stays;
        found = λ e. has_byte_on mode false p dollar_sign is refl ∙ on e;
      }

  -- of `$$` both are left
  pub pid_leads : (mode : Mode) (p : ℕ) → byte_at W p ≡ Some dollar_sign → byte_at W (past_byte W p) ≡ Some dollar_sign
      → Leads later W (quoting_in mode) p (dollar_sign ∷ dollar_sign ∷ []) (quoting_in mode)
      (past_byte W (past_byte W p))
  pid_leads mode p is next =
      let q = quoting_in mode in
      let r = past_byte W p in
      let rest = drop r W in
      let last = drop (past_byte W r) W in
      let tick : is_live q grave_accent dollar_sign ≡ false = live_in mode grave_accent dollar_sign in
      let live : is_live q dollar_sign dollar_sign ≡ true = live_in mode dollar_sign dollar_sign in
      let one : stands rest 0 left_parenthesis ≡ false = rest_stands W r left_parenthesis ∙ ap
      (λ y. is_byte y left_parenthesis) next in
      let two : stands rest 0 left_brace ≡ false = rest_stands W r left_brace ∙ ap (λ y. is_byte y left_brace) next in
      let three : stands rest 0 dollar_sign ≡ true = rest_stands W r dollar_sign ∙ ap (λ y. is_byte y dollar_sign) next
      in
      let quoted : (is_quote q apostrophe && stands rest 0 apostrophe) ≡ false =
      and_right _ _ (rest_stands W r apostrophe ∙ ap (λ y. is_byte y apostrophe) next) in
      let first : byte_left q false dollar_sign rest (λ r s. unquoted r s rest) ≡ left_before dollar_sign
      (unquoted q true rest) =
      rw (dollar_no_quote mode, tick, live, one, two, three) refl in
      let second : byte_left q true dollar_sign last (λ r s. unquoted r s last) ≡ left_before dollar_sign
      (unquoted q false last) =
      rw (dollar_no_quote mode, tick, live) refl in
      let first_on : turn q false dollar_sign rest ≡ has_dollar_single q true rest =
      rw (dollar_no_quote mode, live, quoted, three) refl in
      let second_on : turn q true dollar_sign last ≡ has_dollar_single q false last =
      rw (dollar_no_quote mode, live) refl in
      record {
        left =
            byte_on mode false p dollar_sign is refl ∙ first
            ∙ ap (left_before dollar_sign) (byte_on mode true r dollar_sign next refl ∙ second)
            ∙ both_left (dollar_sign ∷ []) (dollar_sign ∷ []) (unquoted q false last);
        found =
            λ e. has_byte_on mode false p dollar_sign is refl ∙ first_on ∙ has_byte_on mode true r dollar_sign next refl
            ∙ second_on;
      }

  -- a byte before what is left, or a backslash and that byte, is one text before it
  escape_two : (c : ℕ) (left : Option (List ℕ)) (t : Bool)
      → cond (not t) (left_before backslash (left_before c left)) (left_before c left) ≡ left_of
      (cond t (c ∷ []) (backslash ∷ c ∷ [])) left
  escape_two c left true = refl
  escape_two c None false = refl
  escape_two c (Some bs) false = refl

  -- a backslash and a byte that is no newline leave what an escape leaves by its mode
  escape_is : (mode : Mode) (c : ℕ) (left : Option (List ℕ)) → is_unquoted mode ≡ true → (c == newline_char) ≡ false
      → escape_left (quoting_in mode) c left ≡ left_of (escape_leaves mode c) left
  escape_is Plain c left read other = rw other refl
  escape_is Double c left read other = rw other
      (escape_two c left (c == dollar_sign || c == grave_accent || c == quotation_mark || c == backslash))
  escape_is Brace c left read other = absurd cc
  escape_is DoubleBrace c left read other = absurd cc
  escape_is Arith c left read other = absurd cc

  -- after continuations no other one stands
  not_newline : (p c : ℕ) → byte_at W p ≡ Some backslash → slice_get W (past_continuations W p + 1) ≡ Some c
      → (c == newline_char) ≡ false
  unfolding continues raw_stands
  not_newline p c is next = false_from_ne_true (c == newline_char) (λ e.
      let P = past_continuations W p in
      let both : continues W P ≡ true =
      and_from _ _ (ap (λ y. is_byte y backslash) is) (ap (λ y. is_byte y newline_char) next ∙ e) in
      let on = joined_more W P both in
      omega (arith, on, place_same W p, place_low W (P + 2)))

  -- so they do where they are read at p
  pub escape_leads : (mode : Mode) (p c : ℕ) → is_unquoted mode ≡ true → byte_at W p ≡ Some backslash
      → slice_get W (past_continuations W p + 1) ≡ Some c
      → Leads later W (quoting_in mode) p (escape_leaves mode c) (quoting_in mode)
      (past_continuations W p + 2)
  unfolding past_byte has_dollar_single
  escape_leads mode p c read is next =
      let q = quoting_in mode in
      let P = past_continuations W p in
      let two : P + 1 + 1 ≡ P + 2 = omega arith in
      let rest : drop (P + 1) W ≡ c ∷ drop (P + 2) W =
      drop_here W (P + 1) c next ∙ ap (λ k. c ∷ drop k W) two in
      let live : is_live q backslash backslash ≡ true = live_in mode backslash backslash in
      let on : has_dollar_single q false (backslash ∷ c ∷ drop (P + 2) W) ≡ has_dollar_single q false
      (drop (P + 2) W) =
      rw live refl in
      record {
        left =
            unquoted_on mode false p backslash is ∙ ap (λ bs. unquoted q false (backslash ∷ bs)) rest
            ∙ unquoted_escape q false backslash c (drop (P + 2) W) live
            ∙ escape_is mode c (unquoted q false (drop (P + 2) W)) read (not_newline p c is next);
        found = λ e. has_on mode false p backslash is ∙ ap (λ bs. has_dollar_single q false (backslash ∷ bs)) rest ∙ on;
      }

  -- of text in single quotes what stands between them is left
  pub single_leads : (p : ℕ) → byte_at W p ≡ Some apostrophe → at_end W (next_quote W (past_byte W p)) ≡ false
      → Leads later W not_quoted p (raw W (past_byte W p) (next_quote W (past_byte W p))) not_quoted
      (next_quote W (past_byte W p) + 1)
  unfolding raw_past
  single_leads p is more =
      let r = past_byte W p in
      let rest = drop r W in
      let k = count_front no_quote rest in
      let inside : r + k < length W = not_end_low W (next_quote W r) more in
      let run = single_run rest (omega (arith, inside, length-drop r W)) in
      let width : r + k - r ≡ k = omega arith in
      let far : drop (k + 1) rest ≡ drop (r + k + 1) W =
      drop-drop (k + 1) r W ∙ ap (λ n. drop n W)
      (let there : r + (k + 1) ≡ r + k + 1 = omega arith in there) in
      let opened : byte_left not_quoted false apostrophe rest
      (λ r s. unquoted r s rest) ≡ unquoted in_single false rest =
      refl in
      let on : turn not_quoted false apostrophe rest ≡ has_dollar_single in_single false rest = refl in
      record {
        left =
            byte_on Plain false p apostrophe is refl ∙ opened ∙ run.0
            ∙ ap (λ n. left_of (take n rest) (unquoted not_quoted false (drop (k + 1) rest))) (sym width)
            ∙ ap (λ l. left_of (take (r + k - r) rest) (unquoted not_quoted false l)) far;
        found =
            λ e. has_byte_on Plain false p apostrophe is refl ∙ on ∙ run.1
            ∙ ap (has_dollar_single not_quoted false) far;
      }

  -- of what opens double quotes no byte is left
  pub double_leads : (p : ℕ) → byte_at W p ≡ Some quotation_mark →
      Leads later W not_quoted p [] in_double (past_byte W p)
  double_leads p is = record {
    left = byte_on Plain false p quotation_mark is refl ∙ sym (nothing_more _);
    found = λ e. has_byte_on Plain false p quotation_mark is refl;
  }

  -- nor is one of what closes them
  pub closer_leads : (p : ℕ) → byte_at W p ≡ Some quotation_mark →
      Leads later W in_double p [] not_quoted (past_byte W p)
  closer_leads p is = record {
    left = byte_on Double false p quotation_mark is refl ∙ sym (nothing_more _);
    found = λ e. has_byte_on Double false p quotation_mark is refl;
  }

  -- ---- pieces that leave nothing

  -- from a backquote on, quote removal leaves nothing
  pub backquote_none : (mode : Mode) (p : ℕ) → byte_at W p ≡ Some grave_accent
      → unquoted (quoting_in mode) false (drop p W) ≡ None
  backquote_none mode p is =
      let q = quoting_in mode in
      let rest = drop (past_byte W p) W in
      let live : is_live q grave_accent grave_accent ≡ true = live_in mode grave_accent grave_accent in
      let none : byte_left q false grave_accent rest (λ r s. unquoted r s rest) ≡ None =
      rw (tick_no_quote mode, live) refl in
      byte_on mode false p grave_accent is refl ∙ none

  -- nor from `$(` or `${` on
  pub opener_none : (mode : Mode) (p : ℕ) → byte_at W p ≡ Some dollar_sign
      → (is_byte (byte_at W (past_byte W p)) left_parenthesis || is_byte (byte_at W (past_byte W p)) left_brace) ≡ true
      → unquoted (quoting_in mode) false (drop p W) ≡ None
  opener_none mode p is opens =
      let q = quoting_in mode in
      let rest = drop (past_byte W p) W in
      let tick : is_live q grave_accent dollar_sign ≡ false = live_in mode grave_accent dollar_sign in
      let live : is_live q dollar_sign dollar_sign ≡ true = live_in mode dollar_sign dollar_sign in
      let one : (stands rest 0 left_parenthesis || stands rest 0 left_brace) ≡ true =
      rw (rest_stands W (past_byte W p) left_parenthesis, rest_stands W (past_byte W p) left_brace) opens in
      let none : byte_left q false dollar_sign rest (λ r s. unquoted r s rest) ≡ None =
      rw (dollar_no_quote mode, tick, live, one) refl in
      byte_on mode false p dollar_sign is refl ∙ none

  -- from `$'` on, outside quotes, text in dollar-single quotes is found
  pub dollar_quote_found : (p : ℕ) → byte_at W p ≡ Some dollar_sign → byte_at W (past_byte W p) ≡ Some apostrophe
      → has_dollar_single not_quoted false (drop p W) ≡ true
  dollar_quote_found p is next =
      let rest = drop (past_byte W p) W in
      let one : stands rest 0 apostrophe ≡ true = rest_stands W (past_byte W p) apostrophe ∙ ap
      (λ y. is_byte y apostrophe) next in
      let found : turn not_quoted false dollar_sign rest ≡ true = rw one refl in
      has_byte_on Plain false p dollar_sign is refl ∙ found
