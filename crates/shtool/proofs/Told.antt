-- What was told of an input.
use Rattle.std.proofs.Common.{◌≡◌, ℕ, ◌||◌, Bool, true, false, List, Option, Err, cond, refl}
use Rattle.shtext.specs.Device.{Writes}
use Rattle.shtool.specs.Report.{IsTold, text_of_error}
use Rattle.shtool.specs.declared.report.RunError.{RunError}
use Rattle.shtext.proofs.Known.{Writes-marked}

-- the answer is 2, whether the device failed or not
two : (broken : Bool) (status : ℕ) → status ≡ 2 → status ≡ cond broken 2 2
two true status e = e
two false status e = e

-- why the input was given up
pub given-up : (name read text : List ℕ) (error : RunError) (a b : Option (List ℕ)) (before after wrote : Bool)
    → before ≡ false → after ≡ (before || wrote) → text ≡ text_of_error name error → Writes a b wrote text →
    IsTold name read (Err error) a b after 2
given-up name read text error a b before after wrote sound told same p =
    record {
      written = Writes-marked a b before after wrote text (text_of_error name error) sound told same p;
      answer = two after 2 refl;
    }
