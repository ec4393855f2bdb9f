-- What may be opened is read wherever its bytes stand, with the same shape:
-- constructs, substitutions and compound commands.
use Rattle.std.proofs.Common.{Option, option_map, None, ◌≡◌, ℕ, zero, suc, ◌+◌, ◌≤◌, ◌<◌, Bool, true, false, Ok, Err, List, List as Row, [], ◌∷◌, ◌++◌, length, drop, map, Some, slice_get, refl, sym, ap, subst, ◌∙◌, arith}
use Rattle.std.proofs.lemmas.Option.{slice_get_within}
use Rattle.shgrammar.specs.declared.keep.Keep.TheVariants.{Whole}
use Rattle.shgrammar.specs.declared.fault.FaultKind.{FaultKind}
use Rattle.shgrammar.specs.declared.fault.FaultKind.TheVariants.{UnclosedSubst}
use Rattle.shgrammar.specs.declared.mode.Mode.TheVariants.{Plain}
use Rattle.shgrammar.specs.declared.token.Closing.TheVariants as closings
use Rattle.shgrammar.specs.declared.token.Next.{Next}
use Rattle.shgrammar.specs.declared.token.Opener.{Opener}
use Rattle.shgrammar.specs.declared.token.Position.TheVariants.{Command}
use Rattle.shast.specs.declared.tree.Span.{Span}
use Rattle.shast.specs.Shape.{shape_of, shape_of_subst, shape_of_substs, text_at}
use Rattle.shast.specs.Tree.{ASubst, AWord, Entries, entries_of, subst as a_subst, substs_of, word}
use Rattle.shgrammar.specs.Standing.{is_byte}
use Rattle.shgrammar.specs.Bytes.{ends, ends_word, byte_at, past_byte, past_blanks, past_continuations}
use Rattle.shgrammar.specs.Characters.{left_parenthesis, right_parenthesis}
use Rattle.shgrammar.specs.Comments.{span}
use Rattle.shgrammar.specs.Tokens.{next_at, next_in}
use Rattle.shgrammar.specs.Sights.{Given, given, State, one_byte}
use Rattle.shgrammar.specs.Form.{moved_on, Read, ◌▸◌, Form, give, move, ◌>>◌, many, with_end, does}
use Rattle.shgrammar.specs.Words.{Inner, contents, a_word}
use Rattle.shgrammar.specs.Commands.{none_waits, nothing_waits, next_token, pick, unexpected, what_is_wrong}
use Rattle.shgrammar.specs.Lists.{ListSoFar, list_so_far, none_listed, list_turn}
use Rattle.shgrammar.specs.Compounds.{is_closing}
use Rattle.shgrammar.specs.Substitutions.{substitution_list, a_substitution, one_substitution}
use Rattle.shgrammar.specs.Levels.{level}
use Rattle.shgrammar.proofs.Holds.{Holds, AtOrAfter, no_form_goes_back}
use Rattle.shgrammar.proofs.SameBytes.{Kept, Here, at_limit}
use Rattle.shgrammar.proofs.Ahead.{ListEnds, bracket_ends, past_byte_is, same_after, same_byte, seen}
use Rattle.shgrammar.proofs.Asked.{Good, good_high}
use Rattle.shgrammar.proofs.PiecesElsewhere.{InnerOfPieces, Holding, SameSubsts, Ended, construct_in, word_in}
use Rattle.shgrammar.specs.HereDocuments.{first_waiting, own_level, outer_level}
use Rattle.shast.specs.Bodies.{filled}
use Rattle.shast.proofs.FilledShape.{shape_filled}
use Rattle.shgrammar.proofs.Shifted.{shifted, state_from}
use Rattle.shgrammar.proofs.BodiesThere.{move_span, first_over}
use Rattle.shgrammar.proofs.FormsElsewhere.{over, Back, each_form_back, Found, Goes, go_stop, go_stopped, same_texts}
use Rattle.shgrammar.proofs.JoinsElsewhere.{next_same, rows_more}
use Rattle.shgrammar.proofs.CommandsElsewhere.{InnerElsewhere, SameCommand, SameWord}
use Rattle.shgrammar.proofs.ListsElsewhere.{SameList, compound_same, function_same, all_lines_same, list_shape}
use Rattle.shgrammar.proofs.TokensShown.{Begins, paren_here, shown_level, shown_lines, shown_next}
use Rattle.shgrammar.proofs.WordsWithin.{Last, contents_end, stays_in}
use Rattle.shgrammar.specs.declared.edition.Edition.{Edition}

-- the shape of a row of substitutions is the row of their shapes
pub substs_shape : (B : List ℕ) (ss : Row ASubst) →
    shape_of_substs B (substs_of ss) ≡ substs_of (map (shape_of_subst B) ss)
substs_shape B [] = refl
substs_shape B (s ∷ ss) = rw (substs_shape B ss) refl

-- whatever two texts, and wherever: constructs and substitutions before a byte that
-- ends words, compound commands and functions before a `)`
pub record InnerAnywhere (inner : Inner) : Type 0 where
  pub local : (edition : Edition) (T U : List ℕ) (a L : ℕ) (to : ℕ → ℕ) (K : Kept edition T U a L to) (o o2 : ℕ)
      (B B2 : List ℕ) → T ≡ drop o B → U ≡ drop o2 B2 → ends (byte_at U (to L)) ≡ true
      → (is_byte (byte_at T L) left_parenthesis ≡ false → is_byte (byte_at U (to L)) left_parenthesis ≡ false) →
      InnerOfPieces K o o2 B B2 inner
  pub compound : (edition : Edition) (T U : List ℕ) (a M : ℕ) (to : ℕ → ℕ) (limit : ℕ)
      (E : ListEnds edition T U a M to limit) (o o2 : ℕ) (B B2 : List ℕ) (stands : T ≡ drop o B)
      (stands_there : U ≡ drop o2 B2) (c : Opener)
      → Goes E o o2 B B2 stands stands_there (SameCommand B B2) (inner.compound c)
      (inner.compound c)
  pub function : (edition : Edition) (T U : List ℕ) (a M : ℕ) (to : ℕ → ℕ) (limit : ℕ)
      (E : ListEnds edition T U a M to limit) (o o2 : ℕ) (B B2 : List ℕ) (stands : T ≡ drop o B)
      (stands_there : U ≡ drop o2 B2) (name new : Span)
      → text_at B name ≡ text_at B2 new →
      Goes E o o2 B B2 stands stands_there (SameCommand B B2) (inner.function name)
      (inner.function new)

module _ (room : ℕ) (all : InnerAnywhere (level room)) where
  -- what may be opened, with this room
  abbrev inner : Inner
  inner = level room

  -- ---- a word of a list

  module _ {edition : Edition} {T U : List ℕ} {a M : ℕ} {to : ℕ → ℕ} {limit : ℕ} (E : ListEnds edition T U a M to limit)
      (o o2 : ℕ) (B B2 : List ℕ) (stands : T ≡ drop o B) (stands_there : U ≡ drop o2 B2) where
    -- a word of the same shape is read in the second text
    abbrev FoundWord : State → AWord → State → Type 0
    FoundWord s w t = Found E o o2 B B2 stands stands_there (SameWord B B2)
        (a_word inner) s w t

    -- the bytes are the same up to its end
    kept_to : (e : ℕ) → a ≤ e → e ≤ M → Kept edition T U a e to
    kept_to e low le = record {
      under = low;
      on = E.kept.on;
      same = λ r from lt. E.kept.same r from (omega (arith, lt, le));
    }

    -- a word that was read, by the substitutions in it, and any word
    word_there : (s : State) (ss : Row ASubst) (t : State) → a ≤ s.at → s.at ≤ t.at → ends_word T t.at ≡ true →
        does (contents inner Plain (o + s.at) []) Whole (given edition T o) s ≡ Ok (ss, t)
        → FoundWord s (word (span o s.at t.at) (substs_of ss)) t
    unfolding a_word ends_word
    word_there s ss t from onward ender is e =
        let le = good_high E e in
        let byte : byte_at U (to t.at) ≡ byte_at T t.at = same_byte E e in
        let K = kept_to t.at (omega (arith, from, onward)) le in
        let ends_there = ap ends byte ∙ ender in
        let open_there : is_byte (byte_at T t.at) left_parenthesis ≡ false →
        is_byte (byte_at U (to t.at)) left_parenthesis ≡ false = λ f. ap (λ x. is_byte x left_parenthesis) byte ∙ f in
        let local = all.local edition T U a t.at to K o o2 B B2 stands stands_there ends_there open_there in
        let w = subst (Holds (Ended K o o2 B B2 ends_there open_there inner local (o2 + to s.at) s)) is
        (word_in K o o2 B B2 ends_there open_there inner local (o + s.at) (o2 + to s.at) s from) refl in (
          word (span o2 (to s.at) (to t.at)) (substs_of w.0),
          (
            rw w.1.0 refl,
            rw (
              same_texts E o o2 B B2 stands stands_there s.at t.at from
                  (omega (arith, from, onward)) le,
              substs_shape B ss,
              w.1.1,
              sym (substs_shape B2 w.0),
            ) refl,
          ),
        )

    word_by : (s : State) → a ≤ s.at → (x : Read (Row ASubst)) →
        does (contents inner Plain (o + s.at) []) Whole (given edition T o) s ≡ x → Holds (AtOrAfter s) x →
        (s.at ≤ length T → Holds (λ ss t. Last (given edition T o) Plain t) x)
        → Holds (FoundWord s) (◌▸◌ {Y = AWord} x (λ ss t. Ok (word (span o s.at t.at) (substs_of ss), t)))
    word_by s from (Ok (ss, t)) is onward last =
        λ e. let le : t.at < length T = omega (arith, good_high E e, slice_get_within T M limit E.byte) in
        word_there s ss t from onward ((last (omega (arith, onward, le))).1 refl) is e
    word_by s from (Err f) is onward last = tt

    word_go : (s : State) → a ≤ s.at → Holds (FoundWord s) (does (a_word inner) Whole (given edition T o) s)
    unfolding a_word
    word_go s from =
        let body = contents inner Plain (o + s.at) [] in
        subst (Holds (FoundWord s)) (joined (does body Whole (given edition T o) s))
        (word_by s from (does body Whole (given edition T o) s) refl
        (no_form_goes_back body Whole (given edition T o) s).told
        (λ le. contents_end (given edition T o) inner (stays_in (given edition T o) room) Plain (o + s.at) [] s le))
      where
        joined : (x : Read (Row ASubst))
            → ◌▸◌ {Y = AWord} x (λ ss t. Ok (word (span o s.at t.at) (substs_of ss), t))
            ≡ ◌▸◌ {Y = AWord} (◌▸◌ {Y = Row ASubst × Span} x (λ ss t. Ok ((ss, span o s.at t.at), t)))
            (λ w t. Ok (word w.1 (substs_of w.0), t))
        joined (Ok (ss, t)) = refl
        joined (Err f) = refl

    -- so words, compound commands and functions in a list are read there
    fine : InnerElsewhere E o o2 B B2 stands stands_there inner
    fine = record {
      word = record { go = word_go };
      compound = all.compound edition T U a M to limit E o o2 B B2 stands stands_there;
      function = all.function edition T U a M to limit E o o2 B B2 stands stands_there;
    }

  -- ---- a substitution

  module _ {edition : Edition} {T U : List ℕ} {a L : ℕ} {to : ℕ → ℕ} (K : Kept edition T U a L to) (o o2 : ℕ)
      (B B2 : List ℕ) (stands : T ≡ drop o B) (stands_there : U ≡ drop o2 B2) where
    -- what is given of both texts
    abbrev g : Given
    g = given edition T o

    abbrev h : Given
    h = given edition U o2

    -- its `)` is the limit of its list
    limit_at : (M : ℕ) → a ≤ M → M + 1 ≤ L → slice_get T M ≡ Some right_parenthesis →
        ListEnds edition T U a M to right_parenthesis
    limit_at M from le is = record {
      kept = record { under = omega (arith, from); on = K.on; same = λ r low lt. K.same r low (omega (arith, lt, le)) };
      under = from;
      byte = is;
      ender = bracket_ends;
    }

    -- a byte that is read up to the `)` is read before the limit
    here_before : (M : ℕ) {p : ℕ} → M + 1 ≤ L → Here T U a (M + 1) to p → Here T U a L to p
    here_before M le i = let lt = i.inside in record { low = i.low; inside = omega (arith, lt, le); there = i.there }

    -- the lines of a substitution, whether a `)` ends them, and what is read of it
    abbrev all_lines : Next → Form ListSoFar
    all_lines n = many (list_turn inner) (list_so_far (none_listed false) n)

    abbrev closes : ListSoFar → Bool
    closes l = is_closing closings.Paren l.next.token

    abbrev the_close : ListSoFar → Bool → Form Entries
    the_close l b = pick b (nothing_waits >> move one_byte >> give (entries_of l.list.entries))
        (unexpected inner l.next)

    -- the first that waits, elsewhere
    abbrev first_there : Option ℕ → Option ℕ
    first_there w = option_map (λ (n : ℕ). shifted (o + a) (o2 + to a) n) w

    module _ (b b2 : ℕ) (ss : Row ASubst) (outer : State) (from : a ≤ outer.at) where
      -- its own level
      abbrev s : State
      s = own_level outer

      -- its first token, and the state where that begins
      abbrev the_next : Next
      the_next = next_in edition (next_at Command T s.at)

      abbrev start : State
      start = record { at = past_blanks T s.at; waiting = s.waiting; bodies = s.bodies }

      -- the substitution is read there as well, after others of the same shape
      abbrev There : Row ASubst → State → Type 0
      There x t = Holding K o o2 B B2 (a_substitution inner b2) ss outer x t

      -- the list was read up to its `)`, and nothing waits there
      module _ (l : ListSoFar) (u : State) (is : does (all_lines the_next) Whole g start ≡ Ok (l, u))
          (closed : closes l ≡ true) (none : first_waiting u ≡ None) (begins : Begins g l.next u)
          (onward : start.at ≤ u.at)
          (still : s.at ≤ start.at) where
        -- where the `)` stands, and that it is the byte there
        abbrev M : ℕ
        M = u.at

        shown : (byte_at T M ≡ Some right_parenthesis) × (past_continuations T M ≡ M)
        shown = paren_here g l.next u begins closed

        byte : slice_get T M ≡ Some right_parenthesis
        byte = ap (slice_get T) (sym shown.1) ∙ shown.0

        module _ (le : M + 1 ≤ L) where
          -- its list ends at that place in both texts
          E : ListEnds edition T U a M to right_parenthesis
          E = limit_at M (omega (arith, from, still, onward)) le byte

          -- a state, elsewhere
          abbrev over_there : State → State
          over_there v = over E o o2 B B2 stands stands_there v

          -- what ends at a good place began at one, and so did the list
          back_start : Back E o o2 B B2 stands stands_there start l u
          back_start = subst (Holds (Back E o o2 B B2 stands stands_there start)) is
              (each_form_back E o o2 B B2 stands stands_there (all_lines the_next) start
              (omega (arith, from, still))).told

          good_start : Good T a M start.at
          good_start = back_start.1 at_limit

          -- the bodies have the same texts
          same_bodies : map (text_at B) u.bodies ≡ map (text_at B2) (map (move_span E o o2) u.bodies)
          same_bodies = back_start.2 at_limit refl

          -- the first byte that is read in it is before the limit
          begun : Here T U a L to s.at
          unfolding next_token
          begun = here_before M le (seen E
              ((each_form_back E o o2 B B2 stands stands_there (next_token Command) s from).told.1 good_start))

          -- the same token begins it there
          same_start : does (next_token Command) Whole h (over_there s) ≡ Ok (the_next, over_there start)
          unfolding next_token
          same_start =
              let again : Goes E o o2 B B2 stands stands_there (λ n m. n ≡ m) (next_token Command)
              (next_token Command) = next_same Command in
              let w = again.go s from good_start in
              subst (λ (n : Next). does (next_token Command) Whole h (over_there s) ≡ Ok (n, over_there start))
              (sym w.1.1) w.1.0

          -- its lines are read there, with the same shape
          same_lines : (k : ListSoFar) ×
              ((does (all_lines the_next) Whole h (over_there start) ≡ Ok (k, over_there u))
              × SameList B B2 l k)
          same_lines =
              subst (Holds (Found E o o2 B B2 stands stands_there
              (SameList B B2)
              (all_lines the_next) start)) is
              ((all_lines_same (fine E o o2 B B2 stands stands_there) the_next the_next refl).go start
              (omega (arith, from, still)))
              at_limit

          -- the state after the `)`, and the list that was read there
          abbrev last : State
          last = record { at = past_byte T M; waiting = u.waiting; bodies = u.bodies }

          abbrev k : ListSoFar
          k = same_lines.0

          -- no here-document waits there either
          none_there : first_waiting (over_there u) ≡ None
          none_there = first_over E o o2 u ∙ ap first_there none

          -- where nothing waits its `)` is read
          close_there : does (the_close k true) Whole h (over_there u) ≡ Ok (entries_of k.list.entries, over_there last)
          unfolding nothing_waits
          close_there =
              ap (λ (w : Option ℕ). ◌▸◌ {Y = Entries} (does (none_waits w) Whole h (over_there u))
              (λ x t. Ok (entries_of k.list.entries, moved_on one_byte h t))) none_there
              ∙ ap (λ (p : ℕ). Ok (entries_of k.list.entries, state_from (o + a) (o2 + to a) p u))
              (same_after E at_limit)

          -- what stands in it, and its `)`
          same_inside : does (substitution_list inner) Whole h (over_there s)
              ≡ Ok (entries_of k.list.entries, over_there last)
          unfolding substitution_list
          same_inside =
              let closes_there : closes k ≡ true =
              ap (λ (n : Next). is_closing closings.Paren n.token) (sym same_lines.1.1.1) ∙ closed in
              ap (λ (z : Read Next). ◌▸◌ {Y = Entries} z
              (λ n t. ◌▸◌ {Y = Entries} (does (all_lines n) Whole h t)
              (λ l t. does (the_close l (closes l)) Whole h t))) same_start
              ∙ ap (λ (z : Read ListSoFar). ◌▸◌ {Y = Entries} z (λ l t. does (the_close l (closes l)) Whole h t))
              same_lines.1.0
              ∙ ap (λ c. does (the_close k c) Whole h (over_there u)) closes_there
              ∙ close_there

          -- a substitution with this list, from one offset up to another
          abbrev one_more : Entries → ℕ → ℕ → ASubst
          one_more es start end = a_subst es (record { start = start; «end» = end })

          -- its list, with its bodies
          filled_same : shape_of B (filled u.bodies (entries_of l.list.entries))
              ≡ shape_of B2 (filled (map (move_span E o o2) u.bodies) (entries_of k.list.entries))
          filled_same =
              shape_filled B u.bodies (entries_of l.list.entries)
              ∙ ap (λ bs. filled bs (shape_of B (entries_of l.list.entries))) same_bodies
              ∙ ap (filled (map (text_at B2) (map (move_span E o o2) u.bodies)))
              (list_shape B B2 l k same_lines.1.1)
              ∙ sym (shape_filled B2 (map (move_span E o o2) u.bodies) (entries_of k.list.entries))

          -- so the substitution is found there
          found : (zs : Row ASubst) → SameSubsts K o o2 B B2 ss zs
              → (y : Row ASubst) × ((does (a_substitution inner b2 zs) Whole h (over_there outer)
              ≡ Ok (y, over_there (outer_level outer last)))
              × SameSubsts K o o2 B B2 (ss
              ++ one_more (filled u.bodies (entries_of l.list.entries)) b (o + past_byte T M)
              ∷ []) y)
          unfolding a_substitution one_substitution
          found zs same = (
            zs ++ one_more (filled (map (move_span E o o2) u.bodies) (entries_of k.list.entries)) b2
                (o2 + to (past_byte T M)) ∷ [],
            (
              ap (λ (z : Read Entries). ◌▸◌ {Y = Row ASubst}
                  (◌▸◌ {Y = Entries × Row Span} (with_end UnclosedSubst b2 z)
                  (λ es t. Ok ((es, t.bodies), outer_level (over_there outer) t)))
                  (λ es t. Ok (zs ++ one_more (filled es.1 es.0) b2 (o2 + t.at) ∷ [], t))) same_inside,
              rows_more (shape_of_subst B) (shape_of_subst B2) ss
                  (one_more (filled u.bodies (entries_of l.list.entries)) b (o + past_byte T M)) zs
                  (one_more (filled (map (move_span E o o2) u.bodies) (entries_of k.list.entries)) b2
                  (o2 + to (past_byte T M))) same
                  (ap (λ es. a_subst es tt) filled_same),
            ),
          )

      -- where the place after the byte at M is within the limit, so is M + 1
      ends_high : (M : ℕ) → past_continuations T M ≡ M → past_byte T M ≤ L → M + 1 ≤ L
      ends_high M still le = omega (arith, le, past_byte_is T M, still)

      -- what is read of a level, as one more substitution
      abbrev one_level : Read Entries → Read (Row ASubst)
      one_level x =
          ◌▸◌ {Y = Row ASubst} (◌▸◌ {Y = Entries × Row Span} (with_end UnclosedSubst b x)
          (λ es t. Ok ((es, t.bodies), outer_level outer t)))
          (λ es t. Ok (ss ++ a_subst (filled es.1 es.0) (record { start = b; «end» = o + t.at }) ∷ [], t))

      -- by whether a document waits, by whether a `)` ends the list, and by the lines that were read
      by_waiting : (l : ListSoFar) (u : State) → does (all_lines the_next) Whole g start ≡ Ok (l, u) → Begins g l.next u
          →
          start.at ≤ u.at → s.at ≤ start.at → closes l ≡ true → (w : Option ℕ) → first_waiting u ≡ w
          → Holds There (one_level (does (none_waits w) Whole g u ▸ λ x t. Ok
          (entries_of l.list.entries, moved_on one_byte g t)))
      by_waiting l u is begins onward still closed (Some w) waiting = tt
      by_waiting l u is begins onward still closed None none =
          λ le. let high = ends_high u.at (shown l u is closed none begins onward still).1 le in (
            begun l u is closed none begins onward still high,
            λ zs same. found l u is closed none begins onward still high zs same,
          )

      by_close : (l : ListSoFar) (u : State) → does (all_lines the_next) Whole g start ≡ Ok (l, u) → Begins g l.next u →
          start.at ≤ u.at → s.at ≤ start.at → (c : Bool) → closes l ≡ c
          → Holds There (one_level (does (the_close l c) Whole g u))
      unfolding nothing_waits
      by_close l u is begins onward still true closed =
          by_waiting l u is begins onward still closed (first_waiting u) refl
      by_close l u is begins onward still false closed = no_close _ (does (what_is_wrong inner l.next) Whole g u)
        where
          no_close : (P : Row ASubst → State → Type 0) (x : Read (FaultKind × ℕ)) →
              Holds P (one_level (x ▸ λ w t. Err (record { kind = w.0; at = w.1 })))
          no_close P (Ok (w, t)) = tt
          no_close P (Err f) = tt

      by_lines : (x : Read ListSoFar) → does (all_lines the_next) Whole g start ≡ x → Holds (λ l t. Begins g l.next t) x
          →
          Holds (AtOrAfter start) x → s.at ≤ start.at
          → Holds There (one_level (x ▸ λ l t. does (the_close l (closes l)) Whole g t))
      by_lines (Ok (l, u)) is begins onward still = by_close l u is begins onward still (closes l) refl
      by_lines (Err f) is begins onward still = tt

      -- a substitution is read there as well
      substitution_there : Holds There (does (a_substitution inner b ss) Whole g outer)
      unfolding a_substitution one_substitution substitution_list next_token
      substitution_there =
          by_lines (does (all_lines the_next) Whole g start) refl
          (shown_lines g inner (shown_level g room) the_next start (shown_next g Command s).told).told
          (no_form_goes_back (all_lines the_next) Whole g start).told
          (no_form_goes_back (next_token Command) Whole g s).told

-- by how many more may be opened
pub level_anywhere : (room : ℕ) → InnerAnywhere (level room)
unfolding level
level_anywhere zero = record {
  local = λ edition T U a L to K o o2 B B2 stands stands_there ender no_open.
      record { construct = λ mode closed b b2 ss s from. tt; substitution = λ b b2 ss s from. tt };
  compound = λ edition T U a M to limit E o o2 B B2 stands stands_there c. go_stopped E o o2 B B2 stands stands_there;
  function = λ edition T U a M to limit E o o2 B B2 stands stands_there name new same. go_stop E o o2 B B2 stands
      stands_there;
}
level_anywhere (suc room) =
    record {
      local = λ edition T U a L to K o o2 B B2 stands stands_there ender no_open.
          record {
            construct = λ mode closed b b2 ss s from.
                construct_in K o o2 B B2 ender no_open (level room)
                ((level_anywhere room).local edition T U a L to K o o2 B B2 stands stands_there ender no_open) mode
                closed b b2 ss s from;
            substitution = λ b b2 ss s from. substitution_there room
                (level_anywhere room) K o o2 B B2 stands stands_there b b2 ss s from;
          };
      compound = λ edition T U a M to limit E o o2 B B2 stands stands_there c.
          compound_same (fine room (level_anywhere room) E o o2 B B2 stands stands_there) c;
      function = λ edition T U a M to limit E o o2 B B2 stands stands_there name new same.
          function_same (fine room (level_anywhere room) E o o2 B B2 stands stands_there) name new same;
    }
