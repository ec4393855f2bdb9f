-- What a line of which nothing is kept tells of the first fault from its start on.
use Rattle.std.proofs.Common.{◌≡◌, ℕ, ◌+◌, ◌≤◌, Bool, true, false, Ok, Err, List, Result, IfOk, drop, length, map, arith}
use Rattle.shgrammar.specs.declared.edition.Edition.{Edition}
use Rattle.shgrammar.specs.declared.keep.Keep.TheVariants.{Nothing}
use Rattle.shast.specs.Tree.{AnEntry}
use Rattle.shast.specs.View.{view_entry}
use Rattle.shgrammar.specs.Scripts.{line_from}
use Rattle.shgrammar.specs.Sights.{standing}
use Rattle.shgrammar.proofs.FirstFault.{first_fault_after, first_fault_here_within, no_first_fault}
use Rattle.shline.specs.declared.stop.Stop.{Stop}
use Rattle.shline.specs.declared.stop.Stop.TheVariants.{Memory, Wrong}
use Rattle.shline.specs.declared.parsed_line.ParsedLine.{ParsedLine}
use Rattle.shline.specs.Clauses.{Gives, Onward, view_told}
use Rattle.shline.specs.Limits.{limits}
use Rattle.shline.proofs.Wanted.{seen_after}
use Rattle.shread.specs.Answers.{NoFaultBefore, Tells}

-- a line that was read has no fault: the first one is that from its end on, or there is none
no_fault_before : (edition : Edition) (B : List ℕ) (p n : ℕ) (es : List AnEntry) (newline : Bool) →
    line_from edition B Nothing false p ≡ Ok ((es, newline), standing n) → Onward 0 n newline → p + n ≤ length B →
    NoFaultBefore edition B p (p + n) newline
no_fault_before edition B p n es true read some within =
    (first_fault_after edition B p (standing n) es read, omega (arith, some), within)
no_fault_before edition B p n es false read some within = no_first_fault edition B p (standing n) es read

-- what is told of a line, or what stopped it, is true of the first fault from its start on
pub tells : (edition : Edition) (B : List ℕ) (p : ℕ) (r : Result ParsedLine Stop) → p ≤ length B
    → Gives (limits 0 p (drop p B)) view_told r (line_from edition B Nothing false p) →
    IfOk r (λ x. Onward 0 x.len x.newline)
    → IfOk r (λ x. p + x.len ≤ length B) → Tells edition B p r
tells edition B p (Ok told) low read some within =
    no_fault_before edition B p told.len (map view_entry told.entries.items) told.newline read some within
tells edition B p (Err (Wrong f)) low fails some within = first_fault_here_within edition B p f low fails.0 fails.1
tells edition B p (Err Memory) low wants some within = seen_after B p wants
