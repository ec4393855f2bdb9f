-- What is read of an option.
use Rattle.std.proofs.Common.{◌≡◌, ℕ, Bool, Result, Ok, Err, Option, Some, None, ap, codes, false, refl, subst, true}
use Rattle.std.specs.Prelude.{unwrap_or}
use Rattle.std.specs.Str.Parse.{ParsesUnsigned}
use Rattle.clap.specs.Matches.{ReadsOne, one_text}
use Rattle.clap.specs.Walk.{Text, one_of, rows_of}
use Rattle.clap.specs.declared.parser.matches.Found.{Found}
use Rattle.clap.proofs.WalkLemmas.{byte_read, one_text-rows}
use Rattle.shtool.specs.Words.{IsFlag, indent_in}

-- by whether there is a text, and what it reads as
pub indent_read : (E : Type 0) (gives : Text → Result ℕ E → Type 0) (given : Option Text) (read : Option ℕ)
    → ((t : Text) (r : Result ℕ E) → gives t r → ParsesUnsigned 8 10 t r) → (given ≡ None → read ≡ None) →
    ((t : Text) → given ≡ Some t → ReadsOne gives t read)
    → unwrap_or read 0 ≡ indent_in given
indent_read E gives None read parses none some = ap (λ r. unwrap_or r 0) (none refl)
indent_read E gives (Some t) (Some n) parses none some = byte_read {E = E} t (Ok n) (parses t (Ok n) (some t refl))
indent_read E gives (Some t) None parses none some = let failed = some t refl in
    byte_read {E = E} t (Err failed.0) (parses t (Err failed.0) failed.1)

-- by the rows
pub flag_read : (found : Found) (id : Text) (flag : Bool) → (one_text found id ≡ None → flag ≡ false)
    → (one_text found id ≡ Some (codes "true") → flag ≡ true)
    → (one_text found id ≡ Some (codes "false") → flag ≡ false) → IsFlag (one_of id (rows_of found)) flag
flag_read found id flag absent on off = subst (λ given. IsFlag given flag) (one_text-rows found id)
    (record { absent = absent; on = on; off = off })
