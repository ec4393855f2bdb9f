-- The window of an edit of held lines is that of the script.
use Rattle.std.proofs.Common.{◌≡◌, ℕ, ◌-◌, ◌^◌, ◌≤◌, List, List as Row, ap, subst, sym, ◌∙◌, arith}
use Rattle.shgrammar.specs.declared.edition.Edition.{Edition}
use Rattle.shtext.specs.Edit.{ASplice, edited, first_begin, last_end, new_end}
use Rattle.shsource.specs.Meter.{raised}
use Rattle.shwindow.specs.Held as the_held
use Rattle.shwindow.specs.Meter.{risen}
use Rattle.shwindow.specs.Window.{IsWindow}
use Rattle.shheld.specs.TopLines.{IsTopLine}
use Rattle.shprint.specs.declared.layout.Layout.{Layout}
use Rattle.shlive.specs.Held.{SessionOptions}
use Rattle.shlive.specs.HeldLines.{HasReadNoMore, HasReadWindow, IsHeldLine}
use Rattle.shlive.proofs.TopLines.{window_held, window_top}

module _ (edition : Edition) (B U : List ℕ) (ss : Row ASplice) (a e b : ℕ)
    (text : U ≡ edited B ss) (first : a ≡ first_begin ss) (end : e ≡ new_end ss) (last : b ≡ last_end ss)
    (before meter : ℕ) where
  -- the window of the splices is from w up to t
  abbrev Is : ℕ → ℕ → Type 0
  Is w t = IsWindow (IsTopLine edition) B (edited B ss) (first_begin ss) (new_end ss) (last_end ss) w t

  -- the window of these places is that of the splices
  to_splices : (w t : ℕ) → IsWindow (IsTopLine edition) B U a e b w t → Is w t
  to_splices w t is =
      subst (λ n. IsWindow (IsTopLine edition) B (edited B ss) (first_begin ss) (new_end ss) n w t) last
      (subst (λ n. IsWindow (IsTopLine edition) B (edited B ss) (first_begin ss) n b w t) end
      (subst (λ n. IsWindow (IsTopLine edition) B (edited B ss) n e b w t) first
      (subst (λ T. IsWindow (IsTopLine edition) B T a e b w t) text is)))

  -- and the window of the splices is that of these places
  from_splices : (w t : ℕ) → Is w t → IsWindow (IsTopLine edition) B U a e b w t
  from_splices w t is =
      subst (λ T. IsWindow (IsTopLine edition) B T a e b w t) (sym text)
      (subst (λ n. IsWindow (IsTopLine edition) B (edited B ss) n e b w t) (sym first)
      (subst (λ n. IsWindow (IsTopLine edition) B (edited B ss) (first_begin ss) n b w t) (sym end)
      (subst (λ n. IsWindow (IsTopLine edition) B (edited B ss) (first_begin ss) (new_end ss) n w t) (sym last) is)))

  -- where a reader of held lines read the window of the places, it read that of the splices
  pub has_read : before ≤ 2 ^ 64 - 1 → the_held.RoseByWindow (IsHeldLine edition) B U a e b before meter →
      HasReadWindow edition B ss before meter
  has_read low read =
      let w = read.0 in
      let t = read.1 in
      let rose : risen before (t - w) ≡ raised before (t - w) = omega (arith, low) in
      (w, t, to_splices w t (window_top edition B U a e b w t read.2), read.3 ∙ rose)

  -- or no more than that
  pub has_read_no_more : the_held.RoseWithinWindow (IsHeldLine edition) B U a e b before meter →
      HasReadNoMore edition B ss before meter
  has_read_no_more no_more w t is = no_more w t (window_held edition B U a e b w t (from_splices w t is))

-- how a session reads and prints, by what its reader reads by and its layout
pub same_how : (y : Layout) (e d : Edition) → e ≡ d →
    ◌≡◌ {A = SessionOptions} (record { edition = e; layout = y }) (record { edition = d; layout = y })
same_how y e d is = ap (λ x. record { edition = x; layout = y }) is
