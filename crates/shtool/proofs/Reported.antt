-- What a check and a print report.
use Rattle.std.proofs.Common.{◌≡◌, ◌≤◌, ℕ, Bool, true, false, cond, List, Option, None, Some, Ok, Err, length, refl, sym, ap, subst, inl, inr}
use Rattle.std.specs.Io.KnownBytes.{Consumes}
use Rattle.shgrammar.specs.Scripts.{FirstFault, Outcome}
use Rattle.shgrammar.specs.declared.edition.Edition.{Edition}
use Rattle.shgrammar.specs.declared.fault.Fault.{Fault}
use Rattle.shprint.specs.ReadBack.{IsTextOf}
use Rattle.shprint.specs.declared.layout.Layout.{Layout}
use Rattle.shtext.specs.Device.{Writes}
use Rattle.shtool.specs.Report.{IsPrintReport, IsReport, IsTold, GivenUpFor, TellsFault}
use Rattle.shtext.specs.Edit.{limit}
use Rattle.shtool.specs.declared.report.RunError.{RunError}
use Rattle.shtool.specs.declared.report.RunError.TheVariants.{Memory, Unwritable}
use Rattle.shtext.proofs.Known.{Writes-nothing}

-- a fault that a check told, or for which memory ran out
pub fault_reported : (edition : Edition) (name : List ℕ) (had has : Option (List ℕ)) (failed ended : Bool)
    (read : List ℕ) → Consumes had has read → failed ≡ false → ended ≡ true → length read ≤ limit
    → (held holds : Option (List ℕ)) (broken : Bool) (status : ℕ) (fault : Fault) → FirstFault edition read (Some fault)
    → TellsFault name read fault held holds broken status →
    IsReport edition name had has failed ended held holds broken status
fault_reported edition name had has failed ended read consumed sound met low held holds broken status fault first
    (inl told) =
    record {
      read = read;
      verdict = Ok (Some fault);
      consumed = consumed;
      judged = (sound, met, low, first);
      told = told;
    }
fault_reported edition name had has failed ended read consumed sound met low held holds broken status fault first
    (inr told) =
    record { read = read; verdict = Err Memory; consumed = consumed; judged = (sound, low); told = told }

module _ (edition : Edition) (layout : Layout) (name : List ℕ) (had has : Option (List ℕ)) (failed ended : Bool)
    (read : List ℕ) (consumed : Consumes had has read) where
  -- a run that was given up before anything was printed
  pub given_up : (out held holds : Option (List ℕ)) (unwritable broken : Bool) (status : ℕ) (error : RunError) →
      unwritable ≡ false → GivenUpFor read failed ended error
      → IsTold name read (Err error) held holds broken status →
      IsPrintReport edition layout name had has failed ended out out unwritable held holds broken status
  given_up out held holds unwritable broken status error whole judged told = record {
    read = read;
    verdict = Err error;
    consumed = consumed;
    judged = judged;
    prints = (refl, whole);
    told = subst (λ b. IsTold name read (cond b (Err Unwritable) (Err error)) held holds broken status)
        (sym whole) told;
  }

  module _ (sound : failed ≡ false) (met : ended ≡ true) (low : length read ≤ limit) where
    -- a fault that was told, or for which memory ran out
    pub fault_told : (out held holds : Option (List ℕ)) (unwritable broken : Bool) (status : ℕ) (fault : Fault) →
        unwritable ≡ false → FirstFault edition read (Some fault)
        → TellsFault name read fault held holds broken status →
        IsPrintReport edition layout name had has failed ended out out unwritable held holds broken status
    fault_told out held holds unwritable broken status fault whole first (inl told) = record {
      read = read;
      verdict = Ok (Some fault);
      consumed = consumed;
      judged = (sound, met, low, first);
      prints = (refl, whole);
      told = subst (λ b. IsTold name read (cond b (Err Unwritable) (Ok (Some fault))) held holds broken status)
          (sym whole) told;
    }
    fault_told out held holds unwritable broken status fault whole first (inr told) =
        given_up out held holds unwritable broken status Memory whole (sound, low) told

    module _ (text : List ℕ) (is : IsTextOf edition layout read text) (old new : Option (List ℕ))
        (unwritable : Bool) where
      faultless : FirstFault edition read None
      faultless = (
        is.script.entries,
        subst (λ fault. Outcome edition read (record { entries = is.script.entries; fault = fault })) is.faultless
            is.outcome,
      )

      -- a text that was printed
      pub text_printed : (held : Option (List ℕ)) (broken : Bool) → Writes old new false text → unwritable ≡ false →
          broken ≡ false
          → IsPrintReport edition layout name had has failed ended old new unwritable held held broken 0
      text_printed held broken written whole unbroken = record {
        read = read;
        verdict = Ok None;
        consumed = consumed;
        judged = (sound, met, low, faultless);
        prints = (text, is, subst (λ b. Writes old new b text) (sym whole) written);
        told = subst (λ b. IsTold name read (cond b (Err Unwritable) (Ok None)) held held broken 0) (sym whole)
            (record { written = Writes-nothing held broken unbroken; answer = ap (λ b. cond b 2 0) (sym unbroken) });
      }

      -- a text for which standard output failed
      pub text_unwritten : (held holds : Option (List ℕ)) (broken : Bool) (status : ℕ) → Writes old new true text →
          unwritable ≡ true → IsTold name read (Err Unwritable) held holds broken status
          → IsPrintReport edition layout name had has failed ended old new unwritable held holds broken status
      text_unwritten held holds broken status written fails told = record {
        read = read;
        verdict = Ok None;
        consumed = consumed;
        judged = (sound, met, low, faultless);
        prints = (text, is, subst (λ b. Writes old new b text) (sym fails) written);
        told = subst (λ b. IsTold name read (cond b (Err Unwritable) (Ok None)) held holds broken status)
            (sym fails) told;
      }
