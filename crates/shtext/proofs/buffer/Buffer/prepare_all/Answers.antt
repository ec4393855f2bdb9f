use Rattle.std.proofs.Common.{◌≡◌, ◌-◌, ◌≤◌, ◌<◌, ◌++◌, List, List as Row, ℕ, length, ap, arith, subst, sym, ◌∙◌, slice_range}
use Rattle.shtext.specs.Buffer.{HasRoom, buffer_bytes, with_splices}
use Rattle.shtext.specs.Chunks.{needed}
use Rattle.shtext.specs.Edit.{ASplice, AreAllowed, first_begin, last_end, splices_of, spliced}
use Rattle.shtext.proofs.Splices.{ends_rise, ends_within, in_old, new_end_is, rise_start, some_is, text_is}
use Rattle.shtext.proofs.buffer.Buffer.prepare_all.Goals as goal

pub copy_between-requires-clause-order : goal.copy_between-requires-clause-order
copy_between-requires-clause-order c =
    let bytes : List ℕ = buffer_bytes c.args.self.now in
    let ss : Row ASplice = splices_of c.args.splices.now in
    let is : AreAllowed bytes ss = c.in_ok-answer.ensures.ok bytes ss c.tally_of-tally.ensures in
    let some : 0 < length ss = some_is c.args.splices.now c.requires in
    let first : c.first_begin-start.result ≡ first_begin ss = c.first_begin-start.ensures in
    let last : c.last_end-end.result ≡ last_end ss = c.last_end-end.ensures ∙ c.tally_of-tally.ensures.last in
    let rise : first_begin ss ≤ last_end ss = ends_rise bytes ss some is.in_range is.rising in
    omega (arith, first, last, rise)

pub copy_between-requires-clause-within : goal.copy_between-requires-clause-within
copy_between-requires-clause-within c =
    let bytes : List ℕ = buffer_bytes c.args.self.now in
    let ss : Row ASplice = splices_of c.args.splices.now in
    let is : AreAllowed bytes ss = c.in_ok-answer.ensures.ok bytes ss c.tally_of-tally.ensures in
    let some : 0 < length ss = some_is c.args.splices.now c.requires in
    let first : c.first_begin-start.result ≡ first_begin ss = c.first_begin-start.ensures in
    let last : c.last_end-end.result ≡ last_end ss = c.last_end-end.ensures ∙ c.tally_of-tally.ensures.last in
    let within : last_end ss ≤ length bytes = ends_within bytes ss some is.in_range is.rising in
    omega (arith, last, within)

pub push_with-requires-clause-in_range : goal.push_with-requires-clause-in_range
push_with-requires-clause-in_range c =
    let bytes : List ℕ = buffer_bytes c.args.self.now in
    let ss : Row ASplice = splices_of c.args.splices.now in
    let is : AreAllowed bytes ss = c.in_ok-answer.ensures.ok bytes ss c.tally_of-tally.ensures in
    let some : 0 < length ss = some_is c.args.splices.now c.requires in
    let first : c.first_begin-start.result ≡ first_begin ss = c.first_begin-start.ensures in
    let last : c.last_end-end.result ≡ last_end ss = c.last_end-end.ensures ∙ c.tally_of-tally.ensures.last in
    let range = in_old bytes ss some is.in_range is.rising c.first_begin-start.result c.last_end-end.result first last
    c.in_ok-old.old.items c.in_ok-old.ensures in
    rw (c.deref.ensures.value) range

pub push_with-requires-clause-rising : goal.push_with-requires-clause-rising
push_with-requires-clause-rising c =
    let bytes : List ℕ = buffer_bytes c.args.self.now in
    let ss : Row ASplice = splices_of c.args.splices.now in
    let is : AreAllowed bytes ss = c.in_ok-answer.ensures.ok bytes ss c.tally_of-tally.ensures in
    let some : 0 < length ss = some_is c.args.splices.now c.requires in
    let first : c.first_begin-start.result ≡ first_begin ss = c.first_begin-start.ensures in
    let last : c.last_end-end.result ≡ last_end ss = c.last_end-end.ensures ∙ c.tally_of-tally.ensures.last in
    rise_start bytes ss some is.in_range is.rising c.first_begin-start.result c.last_end-end.result first last
    c.in_ok-old.old.items c.in_ok-old.ensures

pub overflow_sub-end : goal.overflow_sub-end
overflow_sub-end c =
    let bytes : List ℕ = buffer_bytes c.args.self.now in
    let ss : Row ASplice = splices_of c.args.splices.now in
    let is : AreAllowed bytes ss = c.in_ok-answer.ensures.ok bytes ss c.tally_of-tally.ensures in
    let some : 0 < length ss = some_is c.args.splices.now c.requires in
    let first : c.first_begin-start.result ≡ first_begin ss = c.first_begin-start.ensures in
    let last : c.last_end-end.result ≡ last_end ss = c.last_end-end.ensures ∙ c.tally_of-tally.ensures.last in
    let rise : first_begin ss ≤ last_end ss = ends_rise bytes ss some is.in_range is.rising in
    omega (arith, first, last, rise)

pub returns-clause-fits : goal.returns-clause-fits
returns-clause-fits c =
    let bytes : List ℕ = buffer_bytes c.args.self.now in
    let ss : Row ASplice = splices_of c.args.splices.now in
    let is : AreAllowed bytes ss = c.in_ok-answer.ensures.ok bytes ss c.tally_of-tally.ensures in
    let some : 0 < length ss = some_is c.args.splices.now c.requires in
    let first : c.first_begin-start.result ≡ first_begin ss = c.first_begin-start.ensures in
    let last : c.last_end-end.result ≡ last_end ss = c.last_end-end.ensures ∙ c.tally_of-tally.ensures.last in
    let start : ℕ = c.first_begin-start.result in
    let end : ℕ = c.last_end-end.result in
    let rise : first_begin ss ≤ last_end ss = ends_rise bytes ss some is.in_range is.rising in
    let within : last_end ss ≤ length bytes = ends_within bytes ss some is.in_range is.rising in
    let old : List ℕ = c.in_ok-old.old.items in
    let new : List ℕ = c.push_with.new.into.items in
    let made : new ≡ with_splices start old ss =
    c.in_ok-push_with.ensures ∙ ap (λ l. l ++ with_splices start c.deref.result.now ss) c.in_ok-new.ensures.items
    ∙ ap (λ l. with_splices start l ss) c.deref.ensures.value in
    let text = text_is bytes ss some is.in_range is.rising start end first last old c.in_ok-old.ensures new made in
    let same = c.in_ok-make_room.ensures.bytes in
    let count : c.chunks_for.result ≡ needed (length new - (end - start)) =
    c.chunks_for.ensures ∙ ap needed
    (c.saturating_sub-2.ensures ∙ ap (λ n. n - (end - start)) (c.len.ensures ∙ c.push_with.new.into.ok.0)) in
    record {
      allowed = record {
        in_range = (omega (arith, first, last, rise), omega (arith, last, within, ap length same), tt);
        rising = (omega arith, tt);
        small = omega (arith, is.small, ap length text, ap (λ (l : List ℕ). length (spliced l start end new)) same);
      };
      old = ap (λ (l : List ℕ). slice_range l start end) same ∙ sym c.in_ok-old.ensures;
      room = subst (HasRoom c.make_room.new.self) count c.in_ok-make_room.ensures.room;
    }

pub returns-clause-change : goal.returns-clause-change
returns-clause-change c =
    let bytes : List ℕ = buffer_bytes c.args.self.now in
    let ss : Row ASplice = splices_of c.args.splices.now in
    let is : AreAllowed bytes ss = c.in_ok-answer.ensures.ok bytes ss c.tally_of-tally.ensures in
    let some : 0 < length ss = some_is c.args.splices.now c.requires in
    let first : c.first_begin-start.result ≡ first_begin ss = c.first_begin-start.ensures in
    let last : c.last_end-end.result ≡ last_end ss = c.last_end-end.ensures ∙ c.tally_of-tally.ensures.last in
    let start : ℕ = c.first_begin-start.result in
    let end : ℕ = c.last_end-end.result in
    let rise : first_begin ss ≤ last_end ss = ends_rise bytes ss some is.in_range is.rising in
    let within : last_end ss ≤ length bytes = ends_within bytes ss some is.in_range is.rising in
    let old : List ℕ = c.in_ok-old.old.items in
    let new : List ℕ = c.push_with.new.into.items in
    let made : new ≡ with_splices start old ss =
    c.in_ok-push_with.ensures ∙ ap (λ l. l ++ with_splices start c.deref.result.now ss) c.in_ok-new.ensures.items
    ∙ ap (λ l. with_splices start l ss) c.deref.ensures.value in
    let text = text_is bytes ss some is.in_range is.rising start end first last old c.in_ok-old.ensures new made in
    record {
      allowed = is;
      text = text;
      start = first;
      «end» = last;
      new_end = new_end_is bytes ss some is.in_range is.rising start end first last old c.in_ok-old.ensures new made;
    }
