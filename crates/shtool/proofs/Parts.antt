-- What is held of a script stays true as more of it is read, and as lines are passed.
use Rattle.std.proofs.Common.{◌≡◌, ℕ, ◌+◌, ◌-◌, ◌<◌, ◌≤◌, ◌++◌, [], List, Option, None, Some, option_map, count_by, length, take, drop, slice_get, refl, sym, ap, subst, ◌∙◌, arith, ⊎_elim, length-drop, length-take, zero-add}
use Rattle.std.proofs.lemmas.Bool.{cases_lt}
use Rattle.std.proofs.lemmas.List.{append-nil, append_assoc, drop-append-le, take-append-drop, take-append-le}
use Rattle.std.proofs.lemmas.List.Sums.{fold-append, sum_by-append}
use Rattle.std.proofs.lemmas.Option.{get_or_from_slice_get, slice_get_within}
use Rattle.std.proofs.Math.Seq.{drop-drop, take-add}
use Rattle.shtool.specs.PartialScript.{EndsLine, Held, Holds, HoldsPrinted, IsLocatedAt}
use Rattle.shtool.specs.declared.partial_script.LocatedFault.{LocatedFault}
use Rattle.shtool.specs.declared.printed_part.PrintedPart.{PrintedPart}
use Rattle.shpieces.specs.declared.by_line.Printing.{Printing}
use Rattle.shprint.specs.declared.layout.Layout.{Layout}
use Rattle.shpieces.specs.Printing.{IsPrinted}
use Rattle.shgrammar.specs.Search.{MayPass}
use Rattle.shtool.specs.declared.partial_script.PartialScript.{PartialScript}
use Rattle.shgrammar.specs.declared.edition.Edition.{Edition}
use Rattle.shgrammar.specs.declared.fault.Fault.{Fault}
use Rattle.shgrammar.specs.Moved.{moved_fault}
use Rattle.shgrammar.specs.Scripts.{FirstFault}
use Rattle.shgrammar.proofs.Stretches.{get_drop}
use Rattle.shsource.specs.Text.{column_of, is_newline, line_of, since_newline}
use Rattle.shtext.proofs.Newlines.{since_start}

-- a fault that is moved twice, or not at all
twice : (p n : ℕ) (f : Option Fault) →
    option_map (moved_fault p) (option_map (moved_fault n) f) ≡ option_map (moved_fault (p + n)) f
twice p n None = refl
twice p n (Some f) = let sum : p + (n + f.at) ≡ p + n + f.at = omega arith in
    ap (λ (at : ℕ). Some (record { kind = f.kind; at = at })) sum

stays : (f : Option Fault) → f ≡ option_map (moved_fault 0) f
stays None = refl
stays (Some f) = ap (λ (at : ℕ). Some (record { kind = f.kind; at = at })) (sym (zero-add f.at))

-- nothing was read
pub held_none : (part : PartialScript) → part.passed ≡ 0 → part.newlines ≡ 0 → part.text.items ≡ [] → Held [] part
held_none part passed newlines text = record {
  low = omega (arith, passed);
  text = text ∙ sym (ap (λ (p : ℕ). drop p []) passed);
  newlines = newlines ∙ sym (ap (λ (p : ℕ). count_by is_newline (take p [])) passed);
  fresh = ap (λ (p : ℕ). since_newline (take p [])) passed ∙ since_start [];
}

pub holds_none : (edition : Edition) (part : PartialScript) → part.edition ≡ edition → part.passed ≡ 0 →
    part.newlines ≡ 0 → part.text.items ≡ [] → Holds edition [] part
holds_none edition part by passed newlines text = record {
  held = held_none part passed newlines text;
  by = by;
  after = λ more f first.
      subst (λ (p : ℕ). FirstFault edition more (option_map (moved_fault p) f)) (sym passed)
      (subst (FirstFault edition more) (stays f)
      (subst (λ (p : ℕ). FirstFault edition (drop p more) f) passed first));
}

-- of a part only what it has counts
pub held_as : (read : List ℕ) (old new : PartialScript) → new.passed ≡ old.passed → new.newlines ≡ old.newlines →
    new.text.items ≡ old.text.items → Held read old → Held read new
held_as read old new passed newlines text is = record {
  low = subst (λ (p : ℕ). p ≤ length read) (sym passed) is.low;
  text = text ∙ is.text ∙ sym (ap (λ (p : ℕ). drop p read) passed);
  newlines = newlines ∙ is.newlines ∙ sym (ap (λ (p : ℕ). count_by is_newline (take p read)) passed);
  fresh = ap (λ (p : ℕ). since_newline (take p read)) passed ∙ is.fresh;
}

-- some more was read
pub held_more : (read bytes : List ℕ) (old new : PartialScript) → Held read old → new.passed ≡ old.passed →
    new.newlines ≡ old.newlines → new.text.items ≡ old.text.items ++ bytes → Held (read ++ bytes) new
held_more read bytes old new is passed newlines text =
    let front : take old.passed (read ++ bytes) ≡ take old.passed read = take-append-le old.passed read bytes is.low in
    record {
      low = omega (arith, passed, is.low, Rattle.std.proofs.Common.length-append read bytes);
      text = text ∙ ap (λ (xs : List ℕ). xs ++ bytes) is.text ∙ sym (drop-append-le old.passed read bytes is.low)
          ∙ sym (ap (λ (p : ℕ). drop p (read ++ bytes)) passed);
      newlines = newlines ∙ is.newlines ∙ ap (count_by is_newline) (sym front)
          ∙ sym (ap (λ (p : ℕ). count_by is_newline (take p (read ++ bytes))) passed);
      fresh = ap (λ (p : ℕ). since_newline (take p (read ++ bytes))) passed ∙ ap since_newline front ∙ is.fresh;
    }

pub holds_more : (edition : Edition) (read bytes : List ℕ) (old new : PartialScript) → Holds edition read old →
    Held (read ++ bytes) new → new.passed ≡ old.passed → new.edition ≡ old.edition → Holds edition (read ++ bytes) new
holds_more edition read bytes old new is held passed same_edition = record {
  held = held;
  by = same_edition ∙ is.by;
  after = λ more f first.
      let same : read ++ bytes ++ more ≡ read ++ (bytes ++ more) = append_assoc read bytes more in
      let here : FirstFault edition (drop old.passed (read ++ (bytes ++ more))) f =
      subst (λ (xs : List ℕ). FirstFault edition (drop old.passed xs) f) same
      (subst (λ (p : ℕ). FirstFault edition (drop p (read ++ bytes ++ more)) f) passed first) in
      subst (λ (p : ℕ). FirstFault edition (read ++ bytes ++ more) (option_map (moved_fault p) f)) (sym passed)
      (subst (λ (xs : List ℕ). FirstFault edition xs (option_map (moved_fault old.passed) f)) (sym same)
      (is.after (bytes ++ more) f here));
}

pub printed_more : (edition : Edition) (y : Layout) (read bytes : List ℕ) (old new : PrintedPart) →
    HoldsPrinted edition y read old → Held (read ++ bytes) new.part → new.part.passed ≡ old.part.passed →
    new.printing ≡ old.printing → HoldsPrinted edition y (read ++ bytes) new
printed_more edition y read bytes old new is held passed same =
    let front : take old.part.passed (read ++ bytes) ≡ take old.part.passed read =
    take-append-le old.part.passed read bytes is.held.low in record {
      held = held;
      is = subst (λ (p : Printing). IsPrinted edition y (take new.part.passed (read ++ bytes)) p) (sym same)
          (subst (λ (k : ℕ). IsPrinted edition y (take k (read ++ bytes)) old.printing) (sym passed)
          (subst (λ (X : List ℕ). IsPrinted edition y X old.printing) (sym front) is.is));
    }

-- the bytes that were passed, and more that are held
front_at : (read : List ℕ) (part : PartialScript) → Held read part → (n : ℕ) →
    take (part.passed + n) read ≡ take part.passed read ++ take n part.text.items
front_at read part is n =
    take-add part.passed n read ∙ ap (λ (xs : List ℕ). take part.passed read ++ take n xs) (sym is.text)

-- lines were passed
module _ (read : List ℕ) (old : PartialScript) (n : ℕ) (is : Held read old) (ends : EndsLine old n) where
  high : old.passed + n ≤ length read
  high = omega (arith, is.low, ends.within, length-drop old.passed read, ap length is.text)

  fresh : since_newline (take (old.passed + n) read) ≡ 0
  fresh =
      ⊎_elim (λ (lt : 0 < n).
      let i = old.passed + (n - 1) in
      let byte : slice_get read i ≡ Some 10 = sym (get_drop old.passed read (n - 1))
      ∙ ap (λ (xs : List ℕ). slice_get xs (n - 1)) (sym is.text) ∙ ends.newline lt in
      let up : old.passed + n ≡ i + 1 = omega (arith, lt) in
      ap (λ (m : ℕ). since_newline (take m read)) up
      ∙ (Rattle.shtext.proofs.Newlines.ends read i (slice_get_within read i 10 byte)
      (ap is_newline (get_or_from_slice_get read i 10 0 byte))).1)
      (λ (ge : n ≤ 0). let none : old.passed + n ≡ old.passed = omega (arith, ge) in
      ap (λ (m : ℕ). since_newline (take m read)) none ∙ is.fresh) (cases_lt 0 n)

  pub held_passed : (new : PartialScript) → new.passed ≡ old.passed + n →
      new.newlines ≡ old.newlines + count_by is_newline (take n old.text.items) → new.text.items ≡ drop n old.text.items
      → Held read new
  held_passed new passed newlines text = record {
    low = omega (arith, passed, high);
    text = text ∙ ap (drop n) is.text ∙ drop-drop n old.passed read ∙ sym (ap (λ (p : ℕ). drop p read) passed);
    newlines = newlines ∙ ap (λ (m : ℕ). m + count_by is_newline (take n old.text.items)) is.newlines
        ∙ sym (sum_by-append _ (take old.passed read) (take n old.text.items))
        ∙ sym (ap (count_by is_newline) (front_at read old is n))
        ∙ sym (ap (λ (p : ℕ). count_by is_newline (take p read)) passed);
    fresh = ap (λ (p : ℕ). since_newline (take p read)) passed ∙ fresh;
  }

pub holds_passed : (edition : Edition) (read : List ℕ) (old new : PartialScript) (n : ℕ) → Holds edition read old →
    n ≤ length old.text.items → MayPass edition old.text.items n → Held read new → new.passed ≡ old.passed + n →
    new.edition ≡ old.edition → Holds edition read new
holds_passed edition read old new n is within can held passed same_edition = record {
  held = held;
  by = same_edition ∙ is.by;
  after = λ more f first.
      let rest = drop old.passed (read ++ more) in
      let rest_is : rest ≡ old.text.items ++ more = drop-append-le old.passed read more is.held.low
      ∙ ap (λ (xs : List ℕ). xs ++ more) (sym is.held.text) in
      let same : take n rest ≡ take n old.text.items = ap (take n) rest_is
      ∙ take-append-le n old.text.items more within in
      let here : FirstFault edition (drop n rest) f =
      subst (λ (xs : List ℕ). FirstFault edition xs f)
      (ap (λ (p : ℕ). drop p (read ++ more)) passed ∙ sym (drop-drop n old.passed (read ++ more))) first in
      let whole = is.after more (option_map (moved_fault n) f) (can rest f same here) in
      subst (FirstFault edition (read ++ more))
      (twice old.passed n f ∙ sym (ap (λ (p : ℕ). option_map (moved_fault p) f) passed)) whole;
}

pub printed_passed : (edition : Edition) (y : Layout) (read : List ℕ) (old new : PrintedPart) (n : ℕ) →
    HoldsPrinted edition y read old → Held read new.part → new.part.passed ≡ old.part.passed + n
    → ((e : Edition) (z : Layout) (front : List ℕ) → IsPrinted e z front old.printing →
    IsPrinted e z (front ++ take n old.part.text.items) new.printing) → HoldsPrinted edition y read new
printed_passed edition y read old new n is held passed more =
    let pieces : take new.part.passed read ≡ take old.part.passed read ++ take n old.part.text.items =
    ap (λ (k : ℕ). take k read) passed ∙ take-add old.part.passed n read
    ∙ ap (λ (xs : List ℕ). take old.part.passed read ++ take n xs) (sym is.held.text) in
    record {
      held = held;
      is = subst (λ (X : List ℕ). IsPrinted edition y X new.printing) (sym pieces)
          (more edition y (take old.part.passed read) is.is);
    }

-- where all was read, the text of what is held, which follows what is printed, is that of the script
pub whole_is : (read : List ℕ) (part : PartialScript) → Held read part → take part.passed read ++ part.text.items ≡ read
whole_is read part is = ap (λ (xs : List ℕ). take part.passed read ++ xs) is.text ∙ take-append-drop part.passed read

-- where all was read, the first fault is that of what is held
pub first_is : (edition : Edition) (read : List ℕ) (part : PartialScript) → Holds edition read part → (f : Option Fault)
    → FirstFault edition part.text.items f → FirstFault edition read (option_map (moved_fault part.passed) f)
first_is edition read part is f first =
    let whole : read ++ [] ≡ read = append-nil read in
    let here : FirstFault edition (drop part.passed (read ++ [])) f =
    subst (λ (xs : List ℕ). FirstFault edition xs f) (is.held.text ∙ sym (ap (drop part.passed) whole)) first in
    subst (λ (xs : List ℕ). FirstFault edition xs (option_map (moved_fault part.passed) f)) whole (is.after [] f here)

module _ (read : List ℕ) (part : PartialScript) (is : Held read part) where
  pub line_is : (at : ℕ) → part.newlines + line_of part.text.items at ≡ line_of read (part.passed + at)
  line_is at =
      let count : count_by is_newline (take (part.passed + at) read)
      ≡ count_by is_newline (take part.passed read) + count_by is_newline (take at part.text.items) =
      ap (count_by is_newline) (front_at read part is at)
      ∙ sum_by-append _ (take part.passed read) (take at part.text.items) in
      omega (arith, count, is.newlines)

  pub column_is : (at : ℕ) → column_of part.text.items at ≡ column_of read (part.passed + at)
  unfolding since_newline
  column_is at =
      ap (λ (n : ℕ). 1 + n)
      (sym (ap since_newline (front_at read part is at)
      ∙ fold-append (λ n b. Rattle.std.proofs.Common.cond (is_newline b) 0 (n + 1)) 0 (take part.passed read)
      (take at part.text.items)
      ∙ ap (λ (n : ℕ). Rattle.std.specs.List.fold (λ n b. Rattle.std.proofs.Common.cond (is_newline b) 0 (n + 1)) n
      (take at part.text.items)) is.fresh))

-- a fault that was found there
pub located_there : (edition : Edition) (read : List ℕ) (fault : Fault) (found : LocatedFault) →
    IsLocatedAt read fault found → FirstFault edition read (Some fault) → FirstFault edition read (Some found.fault)
    × IsLocatedAt read found.fault found
located_there edition read fault found at first =
    let same : fault ≡ found.fault = sym at.0 in (
      subst (λ (f : Fault). FirstFault edition read (Some f)) same first,
      (refl, at.1 ∙ ap (λ (f : Fault). line_of read f.at) same, at.2 ∙ ap (λ (f : Fault). column_of read f.at) same),
    )

-- the first fault of what is held, which follows what is printed
pub unprinted_is : (edition : Edition) (read : List ℕ) (part : PartialScript) → Held read part →
    (bytes : List ℕ) (fault : Fault) → bytes ≡ part.text.items
    → FirstFault edition (take part.passed read ++ bytes) (Some (moved_fault (length (take part.passed read)) fault)) →
    FirstFault edition read (Some (moved_fault part.passed fault))
unprinted_is edition read part is bytes fault same first =
    let size : length (take part.passed read) ≡ part.passed = omega (arith, length-take part.passed read, is.low) in
    let whole : take part.passed read ++ bytes ≡ read = ap (λ (xs : List ℕ). take part.passed read ++ xs) same
    ∙ whole_is read part is in
    subst (λ (n : ℕ). FirstFault edition read (Some (moved_fault n fault))) size
    (subst (λ (X : List ℕ). FirstFault edition X (Some (moved_fault (length (take part.passed read)) fault))) whole
    first)
