-- What a copy at another base is.
use Rattle.std.specs.Prelude.{◌≡◌, ℕ, Bool, true, IfOk, List as Row, Result, map}
use Rattle.std.specs.Global.{Vec}
use Rattle.shast.specs.Capped.{capped, capped_body}
use Rattle.shast.specs.declared.tree.Span.{Span}

-- What was made, seen by view, is what was there at another base.
abbrev pub Carries : {X Y E : Type 0} → ℕ → ((Span → Span) → (Span → Span) → Bool → Y → Y) → (X → Y) → X → Result X E →
    Type 0
Carries base carry view x result =
    IfOk result (λ made. view made ≡ carry (capped base) (capped_body base) true (view x))

-- the same of each of a row
abbrev pub CarriesAll : {X Y E : Type 0} → ℕ → ((Span → Span) → (Span → Span) → Bool → Y → Y) → (X → Y) → Row X →
    Result (Vec X) E → Type 0
CarriesAll base carry view xs result =
    IfOk result (λ made. map view made.items ≡ map (carry (capped base) (capped_body base) true) (map view xs))
