use Rattle.shscan.proofs.Rows.{IsRow, high_ok, low_ok, members_of, none_first, some_first}
use Rattle.std.proofs.Common.{ℕ, ◌+◌, ◌≤◌, List, Fits, take, drop, length, get_or, w8}
use Rattle.std.proofs.lemmas.Simd.{length-chunk, chunk-fits}
use Rattle.shscan.proofs.row.outside_in_row.Goals as goal

row : (at : ℕ) (run : List ℕ) → at + 16 ≤ length run → ((k : ℕ) → Fits w8 (get_or run k 0)) →
    IsRow (take 16 (drop at run))
row at run long fits = (length-chunk at 16 run long, chunk-fits w8 at 16 run fits)

pub swizzle-by_low : goal.swizzle-by_low
swizzle-by_low c = low_ok _ (row c.args.at c.args.run.now c.requires c.type_inv.run)

pub swizzle-by_high : goal.swizzle-by_high
swizzle-by_high c = high_ok _ (row c.args.at c.args.run.now c.requires c.type_inv.run)

pub returns-then-members-eq0 : goal.returns-then-members-eq0
returns-then-members-eq0 c =
    let low = c.args.low in
    let high = c.args.high in
    let v = take 16 (drop c.args.at c.args.run.now) in
    let fits = row c.args.at c.args.run.now c.requires c.type_inv.run in
    none_first low high v fits _ (members_of low high v fits) c.if-members-eq0.true

pub returns : goal.returns
returns c =
    let low = c.args.low in
    let high = c.args.high in
    let v = take 16 (drop c.args.at c.args.run.now) in
    let fits = row c.args.at c.args.run.now c.requires c.type_inv.run in
    some_first low high v fits _ (members_of low high v fits) c.if-members-eq0.false
