use Rattle.std.proofs.Common.{◌≡◌, ◌+◌, ◌-◌, drop, length, reverse, arith, ap, ◌∙◌, length-append, length-drop, vec_len}
use Rattle.std.proofs.lemmas.List.{length-reverse}
use Rattle.shtext.specs.Rows.{last_moved}
use Rattle.shtext.proofs.Rows.{brought_back, brought_front}
use Rattle.shtext.proofs.make_place.bring.Goals as goal

pub returns-clause-front : goal.returns-clause-front
returns-clause-front g c =
    let R = c.args.row.now.items in
    let N = reverse (drop (c.len.result - c.args.count) c.args.spare.now.items) in
    let ok = c.args.row.now.ok in
    let ok_spare = c.args.spare.now.ok in
    let ok_new = c.pour.new.into.ok in
    let many : length N ≡ c.args.count
    = length-reverse (drop (c.len.result - c.args.count) c.args.spare.now.items)
    ∙ length-drop (c.len.result - c.args.count) c.args.spare.now.items
    ∙ omega (arith, c.len.ensures, ok_spare.0, c.requires.spare) in
    let long : vec_len c.pour.new.into ≡ length R + c.args.count = ok_new.0 ∙ ap length c.pour.ensures.into
    ∙ length-append R N ∙ omega (arith, many) in
    let is = c.to_place.ensures.items ∙ ap (λ n. last_moved c.pour.new.into.items n c.args.at c.args.count) long
    ∙ ap (λ p. last_moved p (length R + c.args.count) c.args.at c.args.count) c.pour.ensures.into in
    brought_front R N c.to_place.new.row.items c.args.at c.args.count (omega (arith, c.requires.within, ok.0)) many is

pub returns-clause-back : goal.returns-clause-back
returns-clause-back g c =
    let R = c.args.row.now.items in
    let N = reverse (drop (c.len.result - c.args.count) c.args.spare.now.items) in
    let ok = c.args.row.now.ok in
    let ok_spare = c.args.spare.now.ok in
    let ok_new = c.pour.new.into.ok in
    let many : length N ≡ c.args.count
    = length-reverse (drop (c.len.result - c.args.count) c.args.spare.now.items)
    ∙ length-drop (c.len.result - c.args.count) c.args.spare.now.items
    ∙ omega (arith, c.len.ensures, ok_spare.0, c.requires.spare) in
    let long : vec_len c.pour.new.into ≡ length R + c.args.count = ok_new.0 ∙ ap length c.pour.ensures.into
    ∙ length-append R N ∙ omega (arith, many) in
    let is = c.to_place.ensures.items ∙ ap (λ n. last_moved c.pour.new.into.items n c.args.at c.args.count) long
    ∙ ap (λ p. last_moved p (length R + c.args.count) c.args.at c.args.count) c.pour.ensures.into in
    brought_back R N c.to_place.new.row.items c.args.at c.args.count (omega (arith, c.requires.within, ok.0)) many is
