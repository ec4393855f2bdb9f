use Rattle.std.proofs.Common.{arith, sym, leb-true, le-leb}
use Rattle.std.proofs.lemmas.Bool.Decides.{Decides-and, Decides-like}
use Rattle.shtext.specs.Edit.{ASplice}
use Rattle.shtext.proofs.Splices.{in_range_more, last_more, made_more, rise_more}
use Rattle.shtext.proofs.tally.Tally.add.Goals as goal

pub returns : goal.returns
returns c = λ len ss bytes long told.
    let s : ASplice = record { a = c.args.a; b = c.args.b; bytes = bytes } in
    let inside = Decides-like c.is_inside.result (λ is. (is.0, omega (arith, is.1, told.text)))
    (λ is. (is.0, omega (arith, is.1, told.text))) c.is_inside.ensures in
    let after = Decides-like _ (λ is. omega (arith, is, told.last)) (λ is. omega (arith, is, told.last))
    (leb-true c.args.self.now.last c.args.a, le-leb c.args.self.now.last c.args.a) in
    record {
      text = told.text;
      last = sym (last_more 0 ss s);
      made = omega (
        arith,
        told.made,
        told.last,
        made_more 0 ss s,
        long,
        c.saturating_add-self.ensures,
        c.saturating_add.ensures,
        c.saturating_sub-between.ensures,
      );
      in_range = Decides-like _ (in_range_more len ss s).0 (in_range_more len ss s).1
          (Decides-and c.args.self.now.is_in_range c.is_inside.result told.in_range inside);
      rising = Decides-like _ (rise_more 0 ss s).0 (rise_more 0 ss s).1
          (Decides-and c.args.self.now.is_rising _ told.rising after);
    }
