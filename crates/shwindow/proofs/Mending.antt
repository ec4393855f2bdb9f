-- How a row of held lines is mended: what stays before the window, and what was read.
use Rattle.std.proofs.Common.{◌≡◌, ℕ, ◌+◌, ◌-◌, ◌<◌, ◌≤◌, true, List, [], ◌∷◌, ◌++◌, List as Row, drop, sym, ap, subst, ◌∙◌, refl, arith, append_assoc}
use Rattle.shwindow.specs.declared.line.HeldLine.{HeldLine}
use Rattle.shwindow.specs.Blocks.{in_one_row, lines_before, lines_from}
use Rattle.shwindow.specs.Held.{RoseWithinWindow, RoseByWindow}
use Rattle.shwindow.specs.Lines.{IsBoundary, IsRow, Reads, at_start, extent}
use Rattle.shwindow.specs.Meter.{RoseWithin, risen}
use Rattle.shwindow.specs.Reading.{IsBegun}
use Rattle.shwindow.specs.declared.place.BlockPlace.{BlockPlace}
use Rattle.shwindow.specs.Window.{Apart, Begins, Ends}
use Rattle.shwindow.proofs.Joined.{place_split}
use Rattle.shwindow.proofs.Reading.{push_some, rose}
use Rattle.shwindow.proofs.Rows.{row_alone, row_at}
use Rattle.shwindow.proofs.Steps.{begins_here}
use Rattle.shwindow.proofs.Windows.{begins_only, front_stays, window_only}

-- all lines are those before a place and those from it on
pub cut_split : {K : Type 0} (ks : Row (Row (HeldLine K))) (p : BlockPlace) (last : HeldLine K)
    (hs left : Row (HeldLine K))
    → in_one_row ks ++ last ∷ [] ≡ hs → left ≡ lines_from ks p ++ last ∷ [] → hs ≡ lines_before ks p ++ left
cut_split ks p last hs left all is =
    sym all
    ∙ ap (λ x. x ++ last ∷ []) (sym (place_split ks p))
    ∙ append_assoc (lines_before ks p) (lines_from ks p) (last ∷ [])
    ∙ ap (λ x. lines_before ks p ++ x) (sym is)

-- the first line after the cut ends past a, if it ended
past_first : {K : Type 0} (Is : List ℕ → HeldLine K → Type 0) (a begin : ℕ) (xs : Row (HeldLine K)) (last : HeldLine K)
    → ((h : HeldLine K) (hs : Row (HeldLine K)) → xs ≡ h ∷ hs → a < begin + h.len)
    → (T : List ℕ) (h : HeldLine K) (hs : Row (HeldLine K)) → h ∷ hs ≡ xs ++ last ∷ [] → IsRow Is T (h ∷ hs) →
    h.ended ≡ true → a < begin + h.len
past_first Is a begin [] last past T h [] is row ended = let e = row_alone Is T h row in absurd cc
past_first Is a begin [] last past T h (k ∷ ks) is row ended = absurd cc
past_first {K = K} Is a begin (x ∷ xs) last past T h hs is row ended =
    let same : x ≡ h = cc in
    subst (λ (y : HeldLine K). a < begin + y.len) same (past x xs refl)

module _ {K : Type 0} (Is : List ℕ → HeldLine K → Type 0) (a : ℕ) where
  -- lines are cut at the first one that ends past a
  pub record IsCut (hs kept left : Row (HeldLine K)) (begin : ℕ) : Type 0 where
    pub split : hs ≡ kept ++ left
    pub begins : begin ≡ extent kept
    pub low : begin ≤ a
    pub some : left ≡ [] → ⊥
    pub past : (T : List ℕ) (h : HeldLine K) (ls : Row (HeldLine K)) → h ∷ ls ≡ left → IsRow Is T (h ∷ ls) →
        h.ended ≡ true → a < begin + h.len

  -- so they are cut where the first line left ends past a, or only the last line is left
  pub cut_at : (hs kept left xs : Row (HeldLine K)) (last : HeldLine K) (begin : ℕ) → hs ≡ kept ++ left →
      begin ≡ extent kept → begin ≤ a → left ≡ xs ++ last ∷ []
      → ((h : HeldLine K) (ls : Row (HeldLine K)) → xs ≡ h ∷ ls → a < begin + h.len) → IsCut hs kept left begin
  cut_at hs kept left xs last begin split begins low is past = record {
    split = split;
    begins = begins;
    low = low;
    some = λ none. push_some xs last (sym is ∙ none);
    past = λ T h ls first row ended. past_first Is a begin xs last past T h ls (first ∙ is) row ended;
  }

  module _ (laws : Reads Is) (B U : List ℕ) (e b : ℕ) (apart : Apart B U a e b) (hs kept : Row (HeldLine K)) (begin : ℕ)
      (row : IsRow Is B hs) where
    -- at the cut the window begins, and before it the lines stay
    begun_by : (left : Row (HeldLine K)) → IsCut hs kept left begin →
        (IsBoundary Is B begin × IsRow Is (drop begin B) left × Begins Is B a begin)
        × ((ms : Row (HeldLine K)) → IsRow Is (drop begin U) ms → IsRow Is U (kept ++ ms))
    begun_by [] cut = absurd (cut.some refl)
    begun_by (h ∷ ls) cut =
        let all = subst (IsRow Is B) cut.split row in
        let here = row_at Is laws B 0 kept h ls at_start all in
        let same : 0 + extent kept ≡ begin = let is = cut.begins in omega arith in
        let at = subst (λ x. IsBoundary Is B x × IsRow Is (drop x B) (h ∷ ls)) same here in
        let low : extent kept ≤ a = let is = cut.begins in let before = cut.low in omega arith in
        let past : h.ended ≡ true → a < extent kept + h.len = λ ended. let is = cut.begins in
        let high = cut.past (drop begin B) h ls refl at.1 ended in omega arith in (
          (at.0, at.1, subst (Begins Is B a) (sym cut.begins) (begins_here Is laws B a kept h ls all low past)),
          λ ms rows. front_stays Is laws B U a e b apart 0 kept h ls ms all (omega arith)
              (subst (λ x. IsRow Is (drop x U) ms) (sym same) rows),
        )

    -- so there the reading of the window begins
    pub cut_begun : (left : Row (HeldLine K)) → IsCut hs kept left begin → IsBegun Is B U a e b begin left
    cut_begun left cut = let parts = begun_by left cut in
        record { apart = apart; boundary = parts.0.0; low = cut.low; row = parts.0.1 }

    -- the lines of the new text
    pub cut_row : (left ms : Row (HeldLine K)) → IsCut hs kept left begin → IsRow Is (drop begin U) ms →
        IsRow Is U (kept ++ ms)
    cut_row left ms cut rows = (begun_by left cut).1 ms rows

    -- the window, and what the meter says of it
    pub cut_window : (left : Row (HeldLine K)) (n before meter : ℕ) → IsCut hs kept left begin →
        Ends Is B U e b (begin + n) → meter ≡ risen before n → RoseByWindow Is B U a e b before meter
    cut_window left n before meter cut ends is =
        let same : n ≡ (begin + n) - begin = omega arith in
        (begin, begin + n, record { begins = (begun_by left cut).0.2; ends = ends }, is ∙ ap (risen before) same)

    -- or what it says where no more than the window was read
    pub cut_no_more : (left : Row (HeldLine K)) (before meter : ℕ) → IsCut hs kept left begin →
        ((t : ℕ) → Ends Is B U e b t → RoseWithin (t - begin) before meter) → RoseWithinWindow Is B U a e b before meter
    cut_no_more left before meter cut rose w t window =
        let same : begin ≡ w = begins_only Is B U a e b begin w (begun_by left cut).0.2 window.begins in
        subst (λ x. RoseWithin (t - x) before meter) same (rose t window.ends)

-- who has read a window has read no more than that
pub has_no_more : {K : Type 0} (Is : List ℕ → HeldLine K → Type 0) (B U : List ℕ) (a e b before meter : ℕ) →
    RoseByWindow Is B U a e b before meter → RoseWithinWindow Is B U a e b before meter
has_no_more Is B U a e b before meter (v, u, window, is) w t other =
    let same = window_only Is B U a e b v w u t window other in
    let long : u - v ≤ t - w = omega (arith, same.0, same.1) in
    subst (RoseWithin (t - w) before) (sym is) (rose before (u - v) (t - w) long)

-- ---- the new row

-- the lines kept, read and left after those, with the last line apart from those that ended
pub mended : {X : Type 0} (kept read after : Row X) (last : X) →
    kept ++ (read ++ (after ++ last ∷ [])) ≡ (kept ++ (read ++ after)) ++ last ∷ []
mended kept read after last =
    ap (λ x. kept ++ x) (sym (append_assoc read after (last ∷ [])))
    ∙ sym (append_assoc kept (read ++ after) (last ∷ []))
