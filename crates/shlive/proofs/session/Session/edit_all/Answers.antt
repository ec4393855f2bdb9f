use Rattle.std.proofs.Common.{◌≡◌, ◌∙◌, List, List as Row, ℕ, ap, arith, length, subst, sym}
use Rattle.std.proofs.lemmas.Result.{err_from_is_err_and}
use Rattle.shread.specs.Answers.{edition_of}
use Rattle.shtext.specs.Buffer.{buffer_bytes, changed, edited_bytes}
use Rattle.shtext.specs.declared.change.Change.{Change}
use Rattle.shtext.specs.Edit.{ASplice, edited, first_begin, last_end, new_end, splices_of}
use Rattle.shwindow.specs.Window.{Apart}
use Rattle.shwindow.proofs.Splices.{splices_apart}
use Rattle.shlive.specs.Held.{Held}
use Rattle.shlive.specs.Edits.{IsMade, IsNotMade}
use Rattle.shlive.specs.HeldLines.{count_of}
use Rattle.shlive.specs.Kept.{held}
use Rattle.shlive.proofs.Windows.{has_read, has_read_no_more, same_how}
use Rattle.shlive.proofs.session.Session.edit_all.Goals as goal

-- what splices make stands apart, at any names of its text and its places
apart_at : (B U : List ℕ) (ss : Row ASplice) (a e b : ℕ) → U ≡ edited B ss → a ≡ first_begin ss → e ≡ new_end ss →
    b ≡ last_end ss
    → Apart B (edited B ss) (first_begin ss) (new_end ss) (last_end ss) → Apart B U a e b
apart_at B U ss a e b text first end last is =
    subst (λ T. Apart B T a e b) (sym text)
    (subst (λ n. Apart B (edited B ss) n e b) (sym first)
    (subst (λ n. Apart B (edited B ss) (first_begin ss) n b) (sym end)
    (subst (λ n. Apart B (edited B ss) (first_begin ss) (new_end ss) n) (sym last) is)))

pub edit-requires : goal.edit-requires
edit-requires c =
    let bytes : List ℕ = buffer_bytes c.self.inside.text in
    let ss : Row ASplice = splices_of c.args.splices.now in
    let is = c.in_ok-change.ensures.change in
    let change : Change = c.in_ok-change.change in
    let places = c.places-start.ensures bytes ss is in
    let edition = edition_of c.self.inside.reader.reader in
    let same : buffer_bytes c.prepare_all.new.self ≡ bytes = c.in_ok-change.ensures.bytes in
    let text : edited_bytes c.preview-edited.result ≡ edited bytes ss = c.preview-edited.ensures
    ∙ ap (λ B. changed B change) same ∙ is.text in
    let apart = apart_at bytes (edited_bytes c.preview-edited.result) ss c.places-start.result.0 c.places-start.result.1
    c.places-start.result.2 text places.0 places.1.0 places.1.1
    (splices_apart bytes ss is.allowed.in_range is.allowed.rising) in
    record {
      old = bytes;
      row = c.self.invariant.row;
      apart = apart;
      small = omega (arith, ap length text, is.allowed.small);
    }

pub returns-in_err-edit-clause-refused : goal.returns-in_err-edit-clause-refused
returns-in_err-edit-clause-refused c =
    let bytes : List ℕ = buffer_bytes c.self.inside.text in
    let ss : Row ASplice = splices_of c.args.splices.now in
    let is = c.in_ok-change.ensures.change in
    let change : Change = c.in_ok-change.change in
    let places = c.places-start.ensures bytes ss is in
    let edition = edition_of c.self.inside.reader.reader in
    let same : buffer_bytes c.prepare_all.new.self ≡ bytes = c.in_ok-change.ensures.bytes in
    let text : edited_bytes c.preview-edited.result ≡ edited bytes ss = c.preview-edited.ensures
    ∙ ap (λ B. changed B change) same ∙ is.text in
    let apart = apart_at bytes (edited_bytes c.preview-edited.result) ss c.places-start.result.0 c.places-start.result.1
    c.places-start.result.2 text places.0 places.1.0 places.1.1
    (splices_apart bytes ss is.allowed.in_range is.allowed.rising) in
    let read = has_read_no_more edition bytes
    (edited_bytes c.preview-edited.result) ss c.places-start.result.0 c.places-start.result.1
    c.places-start.result.2 text places.0 places.1.0 places.1.1
    (count_of c.self.inside.reader.reader) (count_of c.edit.new.reader.reader)
    (c.in_err-edit.ensures.err bytes c.self.invariant.row apart) in
    let after : Held = record {
      bytes = buffer_bytes c.prepare_all.new.self;
      how = record { edition = edition_of c.edit.new.reader.reader; layout = c.self.inside.layout };
      meter = count_of c.edit.new.reader.reader;
    } in
    let p = err_from_is_err_and c.from_residual-in_err-edit.result c.from_residual-in_err-edit.ensures.1 in
    rw p.1
    (subst (λ (h : Held). IsNotMade h ss p.0 after) c.self.view_is
    (subst (λ e. IsNotMade (held c.self.inside) ss e after) (sym p.2)
    (record {
      refused = is.allowed;
      bytes = same;
      how = same_how c.self.inside.layout _ _ c.edit.ensures.setting;
      read = read;
    })))

pub returns-clause-made : goal.returns-clause-made
returns-clause-made c =
    let bytes : List ℕ = buffer_bytes c.self.inside.text in
    let ss : Row ASplice = splices_of c.args.splices.now in
    let is = c.in_ok-change.ensures.change in
    let change : Change = c.in_ok-change.change in
    let places = c.places-start.ensures bytes ss is in
    let edition = edition_of c.self.inside.reader.reader in
    let same : buffer_bytes c.prepare_all.new.self ≡ bytes = c.in_ok-change.ensures.bytes in
    let text : edited_bytes c.preview-edited.result ≡ edited bytes ss = c.preview-edited.ensures
    ∙ ap (λ B. changed B change) same ∙ is.text in
    let apart = apart_at bytes (edited_bytes c.preview-edited.result) ss c.places-start.result.0 c.places-start.result.1
    c.places-start.result.2 text places.0 places.1.0 places.1.1
    (splices_apart bytes ss is.allowed.in_range is.allowed.rising) in
    let read = has_read edition bytes
    (edited_bytes c.preview-edited.result) ss c.places-start.result.0 c.places-start.result.1
    c.places-start.result.2 text places.0 places.1.0 places.1.1
    (count_of c.self.inside.reader.reader) (count_of c.edit.new.reader.reader) (omega arith)
    (c.in_ok-edit.ensures.meter bytes c.self.invariant.row apart) in
    let made : buffer_bytes c.commit.new.self ≡ edited bytes ss = c.commit.ensures ∙ ap (λ B. changed B change) same
    ∙ is.text in
    let after : Held = record {
      bytes = buffer_bytes c.commit.new.self;
      how = record { edition = edition_of c.edit.new.reader.reader; layout = c.self.inside.layout };
      meter = count_of c.edit.new.reader.reader;
    } in
    subst (λ (h : Held). IsMade h ss after) c.self.view_is
    (record {
      allowed = is.allowed;
      bytes = made;
      how = same_how c.self.inside.layout _ _ c.edit.ensures.setting;
      read = read;
    })
