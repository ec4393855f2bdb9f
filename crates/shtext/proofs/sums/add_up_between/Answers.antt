use Rattle.std.proofs.Common.{◌<◌, ◌≤◌, ◌+◌, ◌-◌, ℕ, List, List as Row, length, take, drop, get_or, arith, refl, ap, sym, subst, ◌∙◌, length-append, ◌++◌}
use Rattle.std.proofs.lemmas.List.{get_or_append_left, take_rest}
use borrow.Rule.Slice.PartMut.{post_of}
use Rattle.std.proofs.lemmas.List.Sums.{count_by-le-length}
use Rattle.shsource.specs.Text.{is_newline}
use Rattle.shtext.specs.Chunks.{ends_of, joined, newlines_of}
use Rattle.shtext.specs.Edit.{limit}
use Rattle.shtext.proofs.Joined.{joined_low}
use Rattle.shtext.proofs.Moving.{sum_low, sum_moved, sums_moved}
use Rattle.shtext.proofs.Summing.{newlines_append}
use Rattle.shtext.proofs.sums.add_up_between.Goals as goal

pub move_sums-requires-clause-low : goal.move_sums-requires-clause-low
move_sums-requires-clause-low c =
    let mid : List ℕ = c.sum_between.new.ends in
    subst (λ (l : List ℕ). (n : ℕ) → n < length l → c.args.went.0 ≤ get_or l n 0) (sym (take_rest mid c.args.to))
    (sum_low ends_of c.args.chunks.now (drop c.args.to c.args.ends.now) mid c.args.to c.args.went.0 c.requires.within
    (c.sum_between.ensures.end_count ∙ c.requires.end_count)
    c.sum_between.ensures.ends_after c.requires.ends_on)

pub move_sums-requires-clause-high : goal.move_sums-requires-clause-high
move_sums-requires-clause-high c =
    let ks : Row (List ℕ) = c.args.chunks.now in
    let mid : List ℕ = c.sum_between.new.ends in
    let came : ℕ = c.sum_before-end.result in
    subst (λ (l : List ℕ). (n : ℕ) → n < length l → get_or l n 0 - c.args.went.0 + came ≤ limit)
    (sym (take_rest mid c.args.to)) (λ n low.
    let moved = sum_moved ends_of ks (drop c.args.to c.args.ends.now) mid c.args.to c.args.went.0 c.requires.within
    (c.sum_between.ensures.end_count ∙ c.requires.end_count)
    c.sum_between.ensures.ends_after c.requires.ends_on length-append c.sum_between.ensures.ends came
    c.sum_before-end.ensures n low in
    omega (arith, moved, joined_low (c.args.to + (n + 1)) ks, c.requires.small))

pub move_sums-requires-2-clause-low : goal.move_sums-requires-2-clause-low
move_sums-requires-2-clause-low c =
    let mid : List ℕ = c.sum_between.new.newlines in
    subst (λ (l : List ℕ). (n : ℕ) → n < length l → c.args.went.1 ≤ get_or l n 0) (sym (take_rest mid c.args.to))
    (sum_low newlines_of c.args.chunks.now
    (drop c.args.to c.args.newlines.now) mid c.args.to c.args.went.1 c.requires.within
    (c.sum_between.ensures.newline_count ∙ c.requires.newline_count)
    c.sum_between.ensures.newlines_after c.requires.newlines_on)

pub move_sums-requires-2-clause-high : goal.move_sums-requires-2-clause-high
move_sums-requires-2-clause-high c =
    let ks : Row (List ℕ) = c.args.chunks.now in
    let mid : List ℕ = c.sum_between.new.newlines in
    let came : ℕ = c.sum_before-line.result in
    subst (λ (l : List ℕ). (n : ℕ) → n < length l → get_or l n 0 - c.args.went.1 + came ≤ limit)
    (sym (take_rest mid c.args.to)) (λ n low.
    let moved = sum_moved newlines_of ks
    (drop c.args.to c.args.newlines.now) mid c.args.to c.args.went.1 c.requires.within
    (c.sum_between.ensures.newline_count ∙ c.requires.newline_count)
    c.sum_between.ensures.newlines_after c.requires.newlines_on newlines_append c.sum_between.ensures.newlines came
    c.sum_before-line.ensures n low in
    let few = count_by-le-length is_newline (joined (take (c.args.to + (n + 1)) ks)) in
    omega (arith, moved, few, joined_low (c.args.to + (n + 1)) ks, c.requires.small))

pub returns-clause-ends : goal.returns-clause-ends
returns-clause-ends c =
    let ks : Row (List ℕ) = c.args.chunks.now in
    let to : ℕ = c.args.to in
    let mid : List ℕ = c.sum_between.new.ends in
    let moved : List ℕ = c.move_sums.new.sums in
    let back : List ℕ = post_of to (length mid - to) mid in
    let came : ℕ = c.sum_before-end.result in
    let rest = take_rest mid to in
    let long = ap length rest in
    sums_moved ends_of ks (drop to c.args.ends.now) mid to c.args.went.0 c.requires.within
    (c.sum_between.ensures.end_count ∙ c.requires.end_count)
    c.sum_between.ensures.ends_after c.requires.ends_on length-append c.sum_between.ensures.ends came
    c.sum_before-end.ensures
    (take to mid ++ (moved ++ back)) (moved ++ back) refl (λ n low.
    get_or_append_left moved back 0 n (omega (arith, long, low, c.move_sums.ensures.count))
    ∙ c.move_sums.ensures.moved n (omega (arith, long, low)) ∙ ap (λ l. get_or l n 0 - c.args.went.0 + came) rest)

pub returns-clause-newlines : goal.returns-clause-newlines
returns-clause-newlines c =
    let ks : Row (List ℕ) = c.args.chunks.now in
    let to : ℕ = c.args.to in
    let mid : List ℕ = c.sum_between.new.newlines in
    let moved : List ℕ = c.move_sums-2.new.sums in
    let back : List ℕ = post_of to (length mid - to) mid in
    let came : ℕ = c.sum_before-line.result in
    let rest = take_rest mid to in
    let long = ap length rest in
    sums_moved newlines_of ks (drop to c.args.newlines.now) mid to c.args.went.1 c.requires.within
    (c.sum_between.ensures.newline_count ∙ c.requires.newline_count)
    c.sum_between.ensures.newlines_after c.requires.newlines_on newlines_append c.sum_between.ensures.newlines came
    c.sum_before-line.ensures
    (take to mid ++ (moved ++ back)) (moved ++ back) refl (λ n low.
    get_or_append_left moved back 0 n (omega (arith, long, low, c.move_sums-2.ensures.count))
    ∙ c.move_sums-2.ensures.moved n (omega (arith, long, low)) ∙ ap (λ l. get_or l n 0 - c.args.went.1 + came) rest)
