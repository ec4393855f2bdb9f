-- What a line of a script leads on to.
use Rattle.std.proofs.Common.{◌≡◌, ℕ, ◌+◌, ◌++◌, ◌∙◌, ◌&&◌, Bool, true, false, Result, Ok, Err, List as Row, drop, map, ap, refl, sym, subst, None, Some}
use Rattle.shast.specs.declared.tree.Entry.{Entry}
use Rattle.shast.specs.View.{view_entry}
use Rattle.shgrammar.specs.declared.edition.Edition.{Edition}
use Rattle.shgrammar.specs.declared.fault.Fault.{Fault}
use Rattle.shast.specs.Tree.{AnEntry, entries_of}
use Rattle.shgrammar.specs.Sights.{given, standing}
use Rattle.shgrammar.specs.Form.{Read, may}
use Rattle.shline.specs.declared.stop.Stop.{Stop}
use Rattle.shline.specs.declared.stop.Stop.TheVariants.{Memory, Wrong}
use Rattle.shline.specs.Clauses.{Fails, Gives, view_told}
use Rattle.shline.specs.Limits.{Limits}
use Rattle.shgrammar.specs.Commands.{is_empty}
use Rattle.std.proofs.lemmas.List.{map-append}
use Rattle.shgrammar.specs.declared.keep.Keep.TheVariants.{Outer, Whole}
use Rattle.shline.specs.declared.parsed_line.ParsedLine.{ParsedLine}
use Rattle.shpass.specs.declared.script_lines.ScriptLines.{ScriptLines}
use Rattle.shast.specs.Nodes.{NodesWithin}
use Rattle.shpass.specs.declared.script_lines.LinesBefore.{LinesBefore}
use Rattle.shpass.specs.LineByLine.{Before, IsReadBy, LineReads, OuterReads, Rest, Stands, is_blank_after}
use Rattle.shgrammar.proofs.NodesInLimit.{more_within}
use Rattle.shgrammar.specs.Moved.{Same, SameBy}
use Rattle.shgrammar.specs.Scripts.{AScript, Outcome, LinesSoFar, faulty, is_blank_line, last_line, line_ended, line_from, line_told, the_line, with_line}
use Rattle.shgrammar.proofs.MovedLine.{line_moved, line_outer}
use Rattle.shgrammar.proofs.OneOutcome.{computed_is_only}

-- ---- what is read of a line, where its first entry is blank as the lines before it have it

-- the lines before tell, as they do in the grammar, whether the next one's first entry is blank
pub blank_is : (before : LinesBefore) (so : LinesSoFar) → Before before so
    → is_blank_after before ≡ is_blank_line so
blank_is before so stood = ap (λ b. b && before.begun) stood.0 ∙ ap (λ b. so.gap && b) stood.1

-- what is computed of a line is what the grammar reads of it
pub line_read : (edition : Edition) (B : Row ℕ) (so : LinesSoFar) (p : ℕ) (blank : Bool) (x : Read (Row AnEntry × Bool))
    →
    blank ≡ is_blank_line so → line_from edition B Whole blank p ≡ x → LineReads edition B so p x
line_read edition B so p blank x is_blank read =
    let one = (computed_is_only (the_line blank) (given edition (drop p B) p) (standing 0)).some in (
      one.0,
      subst (λ b. may (the_line b) (given edition (drop p B) p) (standing 0) x one.0) is_blank
          (subst (λ y. may (the_line blank) (given edition (drop p B) p) (standing 0) y one.0) read one.1),
    )

-- what the grammar reads of a line is what is computed
pub line_only : (edition : Edition) (B : Row ℕ) (so : LinesSoFar) (p : ℕ) (x : Read (Row AnEntry × Bool)) →
    LineReads edition B so p x → line_from edition B Whole (is_blank_line so) p ≡ x
line_only edition B so p x read =
    sym ((computed_is_only (the_line (is_blank_line so)) (given edition (drop p B) p) (standing 0)).only
    x read.0 read.1)

-- a fault without the trees in command substitutions is that of the line with them
whole_fault : (p : ℕ) (blank : Bool) (f : Fault) (x alone : Read (Row AnEntry × Bool))
    → SameBy false p blank (Err f) alone → Same p blank x alone → x ≡ Err f
whole_fault p blank f x (Ok y) outer whole = absurd outer
whole_fault p blank f (Ok x) (Err h) outer whole = absurd whole
whole_fault p blank f (Err g) (Err h) outer whole = ap Err (whole ∙ sym outer)

-- what is computed of a line without those trees is read of it so
outer_read : (edition : Edition) (B : Row ℕ) (so : LinesSoFar) (p : ℕ) (x : Read (Row AnEntry × Bool))
    → line_from edition B Outer (is_blank_line so) p ≡ x → OuterReads edition B so p x
outer_read edition B so p (Ok x) read = read
outer_read edition B so p (Err f) read =
    let blank = is_blank_line so in
    let alone = line_told edition B Whole false p 0 in
    let outer : SameBy false p blank (Err f) alone =
    subst (λ y. SameBy false p blank y alone) read (line_outer edition B p blank) in
    let whole = whole_fault p blank f (line_from edition B Whole blank p) alone outer (line_moved edition B p blank) in
    line_read edition B so p blank (Err f) refl whole

-- ---- what is told, from what is computed

-- what was told of a line is read of it so, if what it is in the definitions is
told_by : (bound : Limits) (reads : Read (Row AnEntry × Bool) → Type 0) (read : Read (Row AnEntry × Bool)) → reads read
    → (r : Result ParsedLine Stop) → Gives bound view_told r read → IsReadBy reads r
told_by bound reads read is (Ok told) gives = subst reads gives is
told_by bound reads read is (Err (Wrong f)) fails = subst reads fails.0 is
told_by bound reads read is (Err Memory) fails = tt

module _ {S : Type 0} (B : Row ℕ) (bound : Limits) (old : ScriptLines S) (r : Result ParsedLine Stop) (so : LinesSoFar)
    (stood : Stands old so) where
  -- what was told of the next line is what the grammar reads of it
  pub next_line : Gives bound view_told r (line_from old.edition B Whole (is_blank_after old.before) old.at) →
      IsReadBy (LineReads old.edition B so old.at) r
  next_line gives = told_by bound (LineReads old.edition B so old.at) _
      (line_read old.edition B so old.at (is_blank_after old.before) _ (blank_is old.before so stood) refl) r gives

  -- and so it is without the trees in command substitutions
  pub outer_line : Gives bound view_told r (line_from old.edition B Outer (is_blank_after old.before) old.at) →
      IsReadBy (OuterReads old.edition B so old.at) r
  outer_line gives = told_by bound (OuterReads old.edition B so old.at) _
      (outer_read old.edition B so old.at _
      (ap (λ blank. line_from old.edition B Outer blank old.at) (sym (blank_is old.before so stood)))) r gives

-- the same, where the bytes are those of another source, and the edition has another name
pub told_in : (reads : Edition → Row ℕ → Read (Row AnEntry × Bool) → Type 0) (B other : Row ℕ) (edition by : Edition)
    (r : Result ParsedLine Stop) → other ≡ B → by ≡ edition
    → IsReadBy (reads by other) r → IsReadBy (reads edition B) r
told_in reads B other edition by r same is told =
    subst (λ e. IsReadBy (reads e B) r) is (subst (λ b. IsReadBy (reads by b) r) same told)

-- ---- what a line leads on to

-- What the lines after a line with these entries give is what they give with it. Where no newline ended it,
-- it is the script's last.
abbrev pub LeadsOn : Edition → Row ℕ → LinesSoFar → ℕ → Row AnEntry → Bool → ℕ → Type 0
LeadsOn edition B so p es true q = (s : AScript) → Rest edition B (with_line so es) q s → Rest edition B so p s
LeadsOn edition B so p es false q =
    Rest edition B so p (record { entries = entries_of (so.entries ++ es); fault = None })

-- a line that the grammar reads leads on with its entries
line_leads : (edition : Edition) (B : Row ℕ) (so : LinesSoFar) (p n : ℕ) (es : Row AnEntry) (newline : Bool)
    → LineReads edition B so p (Ok ((es, newline), standing n)) → LeadsOn edition B so p es newline (p + n)
line_leads edition B so p n es true read = λ s rest. (read.0 ++ rest.0, line_ended es (standing n) read.0 read.1 rest.1)
line_leads edition B so p n es false read = (read.0, last_line es (standing n) read.0 read.1)

-- so does one that was told
pub leads_on : (edition : Edition) (B : Row ℕ) (so : LinesSoFar) (p : ℕ) (told : ParsedLine) (newline : Bool) →
    told.newline ≡ newline
    → IsReadBy (LineReads edition B so p) (Ok told) →
    LeadsOn edition B so p (map view_entry told.entries.items) newline (p + told.len)
leads_on edition B so p told newline is read =
    subst (λ b. LeadsOn edition B so p (map view_entry told.entries.items) b (p + told.len)) is
    (line_leads edition B so p told.len (map view_entry told.entries.items) told.newline read)

-- where a line has a fault, the script is what the lines before it gave, and that fault
pub leads_nowhere : (edition : Edition) (B : Row ℕ) (so : LinesSoFar) (p : ℕ) (stop : Stop) (f : Fault) → stop ≡ Wrong f
    → IsReadBy (LineReads edition B so p) (Err stop) →
    Rest edition B so p (record { entries = entries_of so.entries; fault = Some f })
leads_nowhere edition B so p stop f is told =
    let read = subst (λ z. IsReadBy (LineReads edition B so p) (Err z)) is told in (read.0, faulty f read.0 read.1)

-- a stop for a fault tells that the reading stops there
pub fault_told : (e : Stop) (f : Fault) (bound : Limits) (x : Read (Row AnEntry × Bool)) → e ≡ Wrong f → Fails bound e x
    → x ≡ Err f
fault_told e f bound x is told = (subst (λ z. Fails bound z x) is told).0

-- ---- all lines

-- what entries of the code, and whether a line without entries is after them, are
abbrev pub so_far : Row Entry → Bool → LinesSoFar
so_far xs gap = record { entries = map view_entry xs; gap = gap }

-- entries of the code, in a row after others, are so in the definitions
all_is : (before all line : Row Entry) → all ≡ before ++ line →
    map view_entry all ≡ map view_entry before ++ map view_entry line
all_is before all line is = ap (map view_entry) is ∙ map-append view_entry before line

module _ {S : Type 0} (edition : Edition) (B : Row ℕ) (before all line : Row Entry) (all_are : all ≡ before ++ line)
    (old new : ScriptLines S)
    (from : (s : AScript) → Rest edition B (so_far before old.before.gap) old.at s → Outcome edition B s) where
  -- after a line that a newline ended, the lines gave all entries so far; what is left still gives the script
  pub ended_on : (n : ℕ) → new.at ≡ old.at + n →
      Stands new (with_line (so_far before old.before.gap) (map view_entry line))
      → LeadsOn edition B (so_far before old.before.gap) old.at (map view_entry line) true (old.at + n)
      → Stands new (so_far all new.before.gap)
      × ((s : AScript) → Rest edition B (so_far all new.before.gap) new.at s → Outcome edition B s)
  ended_on n ends stands leads =
      let same : with_line (so_far before old.before.gap) (map view_entry line) ≡ so_far all new.before.gap =
      ap (λ es. record { entries = es; gap = is_empty (map view_entry line) }) (sym (all_is before all line all_are))
      ∙ ap (λ gap. so_far all gap) (sym stands.0) in (
        subst (Stands new) same stands,
        λ s rest. from s (leads s (subst
            (λ q. Rest edition B (with_line (so_far before old.before.gap) (map view_entry line)) q s) ends
            (subst (λ so. Rest edition B so new.at s) (sym same) rest))),
      )

  -- after the script's last line, all entries so far are those of the script, and it has no fault
  pub last_on : Rest edition B (so_far before old.before.gap) old.at
      (record { entries = entries_of (map view_entry before ++ map view_entry line); fault = None })
      → Outcome edition B (record { entries = entries_of (map view_entry all); fault = None })
  last_on rest = subst (λ es. Outcome edition B (record { entries = entries_of es; fault = None }))
      (sym (all_is before all line all_are)) (from _ rest)

-- no node of all entries so far names an offset above the limit, where none before and none of the line does
pub all_within : (limit : ℕ) (before all line : Row Entry) → all ≡ before ++ line →
    NodesWithin limit (entries_of (map view_entry line))
    → NodesWithin limit (entries_of (map view_entry before)) → NodesWithin limit (entries_of (map view_entry all))
all_within limit before all line all_are line_low low =
    more_within limit (so_far before false) (so_far all (is_empty (map view_entry line))) (map view_entry line)
    (ap (λ es. record { entries = es; gap = is_empty (map view_entry line) }) (all_is before all line all_are)) low
    line_low
