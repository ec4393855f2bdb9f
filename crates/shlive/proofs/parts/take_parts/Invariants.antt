use Rattle.std.proofs.Common.{◌≡◌, ◌+◌, ◌++◌, [], List, List as Row, ℕ, length}
use Rattle.shtext.specs.Edit.{ASplice}
use Rattle.shlive.specs.Ahead.{IsReady, TakesBytes, ahead_of}
use Rattle.shlive.specs.Parts.{Hold}
use Rattle.shlive.specs.Requests.{more_parts}
use Rattle.shlive.proofs.parts.take_parts.Given as goal

abbrev pub invariant-parts : goal.invariant-parts
invariant-parts g l = record {
  ready : IsReady l.input l.incoming;
  so : (taken : List ℕ) × (ss : Row ASplice)
      × TakesBytes (ahead_of g.R.Read.remaining l.fn.input l.fn.incoming)
      (ahead_of g.R.Read.remaining l.input l.incoming) taken
      × ((rest : List ℕ) → more_parts l.count [] (taken ++ rest) ≡ more_parts l.left ss rest)
      × ((len : ℕ) → Hold l.fn.parts len [] → Hold l.parts len ss)
      × (length ss + l.left ≡ l.count);
}

abbrev pub decreases-parts : goal.decreases-parts
decreases-parts g l = l.left
