use Rattle.std.proofs.Common.{◌≡◌, ◌≤◌, ◌+◌, ◌-◌, ◌++◌, ℕ, List, List as Row, length, take, drop, arith, refl, ap, sym, subst, ◌∙◌, length-append}
use Rattle.shtext.specs.Buffer.{filling_bytes}
use Rattle.shtext.specs.Chunks.{LeavesFull, around_count, joined}
use Rattle.shtext.proofs.Around.{around_edited, around_is, around_made, around_length, around_needed, head, head_length, tail}
use Rattle.shtext.proofs.buffer.Buffer.commit.Goals as goal

pub new-filling-requires-clause-within : goal.new-filling-requires-clause-within
new-filling-requires-clause-within c =
    let ks : Row (List ℕ) = c.args.self.now.chunks.items in
    let from : ℕ = c.chunks_of-from.result.0 in
    let to : ℕ = c.chunks_of-from.result.1 in
    let a : ℕ = c.args.change.start in
    let b : ℕ = c.args.change.«end» in
    let order : a ≤ b = c.requires.allowed.in_range.0 in
    let holds = c.chunks_of-from.ensures.holds in
    let empty = ap (λ v. length v.items) c.replace-seam.ensures.value ∙ c.args.self.now.no_seam in
    let made = around_made ks from to a b order holds c.replace-seam.result.items c.copy_around.new.seam.items
    c.deref.result.now empty c.copy_around.ensures c.deref.ensures.value in
    let all = ap length made in
    let one = length-append (head ks from a) (tail ks to b) in
    let front = head_length ks from to a b order holds in
    omega (arith, all, one, front, c.begin.ensures)

pub new-filling-requires-clause-small : goal.new-filling-requires-clause-small
new-filling-requires-clause-small c =
    let ks : Row (List ℕ) = c.args.self.now.chunks.items in
    let from : ℕ = c.chunks_of-from.result.0 in
    let to : ℕ = c.chunks_of-from.result.1 in
    let a : ℕ = c.args.change.start in
    let b : ℕ = c.args.change.«end» in
    let order : a ≤ b = c.requires.allowed.in_range.0 in
    let holds = c.chunks_of-from.ensures.holds in
    let empty = ap (λ v. length v.items) c.replace-seam.ensures.value ∙ c.args.self.now.no_seam in
    let made = around_made ks from to a b order holds c.replace-seam.result.items c.copy_around.new.seam.items
    c.deref.result.now empty c.copy_around.ensures c.deref.ensures.value in
    let new : List ℕ = c.args.change.new.items in
    let all = ap length made in
    let one = length-append (head ks from a) (tail ks to b) in
    let two = ap length c.deref-2.ensures.value in
    let whole = ap length (around_edited ks from to a b order holds new
    (head ks from a ++ (new ++ tail ks to b)) refl) in
    let five = length-append (joined (take from ks))
    ((head ks from a ++ (new ++ tail ks to b)) ++ joined (drop to ks)) in
    let six = length-append (head ks from a ++ (new ++ tail ks to b)) (joined (drop to ks)) in
    let three = length-append (head ks from a) (new ++ tail ks to b) in
    let four = length-append new (tail ks to b) in
    omega (arith, all, one, two, three, four, five, six, whole, c.requires.allowed.small)

pub refill-requires-clause-full : goal.refill-requires-clause-full
refill-requires-clause-full c =
    let ks : Row (List ℕ) = c.args.self.now.chunks.items in
    let from : ℕ = c.chunks_of-from.result.0 in
    let to : ℕ = c.chunks_of-from.result.1 in
    let a : ℕ = c.args.change.start in
    let b : ℕ = c.args.change.«end» in
    let order : a ≤ b = c.requires.allowed.in_range.0 in
    let holds = c.chunks_of-from.ensures.holds in
    let empty = ap (λ v. length v.items) c.replace-seam.ensures.value ∙ c.args.self.now.no_seam in
    let made = around_made ks from to a b order holds c.replace-seam.result.items c.copy_around.new.seam.items
    c.deref.result.now empty c.copy_around.ensures c.deref.ensures.value in
    let new : List ℕ = c.args.change.new.items in
    let F : List ℕ = filling_bytes c.new-filling.result in
    let is = around_is ks from to a b order holds c.deref.result.now c.deref-2.result.now new F c.begin.result made
    c.begin.ensures c.new-filling.ensures c.deref-2.ensures.value in
    let count : c.len.result + around_count ks from to a b ≡ length F
    = ap (λ n. n + around_count ks from to a b) (c.len.ensures ∙ c.args.change.new.ok.0)
    ∙ sym (around_length ks from to a b order holds new F is) in
    subst (LeavesFull ks from to) count c.chunks_of-from.ensures.full

pub refill-requires-clause-small : goal.refill-requires-clause-small
refill-requires-clause-small c =
    let ks : Row (List ℕ) = c.args.self.now.chunks.items in
    let from : ℕ = c.chunks_of-from.result.0 in
    let to : ℕ = c.chunks_of-from.result.1 in
    let a : ℕ = c.args.change.start in
    let b : ℕ = c.args.change.«end» in
    let order : a ≤ b = c.requires.allowed.in_range.0 in
    let holds = c.chunks_of-from.ensures.holds in
    let empty = ap (λ v. length v.items) c.replace-seam.ensures.value ∙ c.args.self.now.no_seam in
    let made = around_made ks from to a b order holds c.replace-seam.result.items c.copy_around.new.seam.items
    c.deref.result.now empty c.copy_around.ensures c.deref.ensures.value in
    let new : List ℕ = c.args.change.new.items in
    let F : List ℕ = filling_bytes c.new-filling.result in
    let is = around_is ks from to a b order holds c.deref.result.now c.deref-2.result.now new F c.begin.result made
    c.begin.ensures c.new-filling.ensures c.deref-2.ensures.value in
    let all = ap length (around_edited ks from to a b order holds new F is) in
    omega (arith, all, c.requires.allowed.small)

pub refill-requires-clause-room : goal.refill-requires-clause-room
refill-requires-clause-room c =
    let ks : Row (List ℕ) = c.args.self.now.chunks.items in
    let from : ℕ = c.chunks_of-from.result.0 in
    let to : ℕ = c.chunks_of-from.result.1 in
    let a : ℕ = c.args.change.start in
    let b : ℕ = c.args.change.«end» in
    let order : a ≤ b = c.requires.allowed.in_range.0 in
    let holds = c.chunks_of-from.ensures.holds in
    let empty = ap (λ v. length v.items) c.replace-seam.ensures.value ∙ c.args.self.now.no_seam in
    let made = around_made ks from to a b order holds c.replace-seam.result.items c.copy_around.new.seam.items
    c.deref.result.now empty c.copy_around.ensures c.deref.ensures.value in
    let new : List ℕ = c.args.change.new.items in
    let F : List ℕ = filling_bytes c.new-filling.result in
    let is = around_is ks from to a b order holds c.deref.result.now c.deref-2.result.now new F c.begin.result made
    c.begin.ensures c.new-filling.ensures c.deref-2.ensures.value in
    let enough = around_needed ks from to a b order holds new F is c.args.self.now.each in
    let room = c.requires.room.row in
    record {
      chunks = omega (arith, enough, room.chunks);
      ends = omega (arith, enough, room.ends);
      newlines = omega (arith, enough, room.newlines);
      spare = omega (arith, enough, room.spare);
    }

pub returns : goal.returns
returns c =
    let ks : Row (List ℕ) = c.args.self.now.chunks.items in
    let from : ℕ = c.chunks_of-from.result.0 in
    let to : ℕ = c.chunks_of-from.result.1 in
    let a : ℕ = c.args.change.start in
    let b : ℕ = c.args.change.«end» in
    let order : a ≤ b = c.requires.allowed.in_range.0 in
    let holds = c.chunks_of-from.ensures.holds in
    let empty = ap (λ v. length v.items) c.replace-seam.ensures.value ∙ c.args.self.now.no_seam in
    let made = around_made ks from to a b order holds c.replace-seam.result.items c.copy_around.new.seam.items
    c.deref.result.now empty c.copy_around.ensures c.deref.ensures.value in
    let new : List ℕ = c.args.change.new.items in
    let F : List ℕ = filling_bytes c.new-filling.result in
    let is = around_is ks from to a b order holds c.deref.result.now c.deref-2.result.now new F c.begin.result made
    c.begin.ensures c.new-filling.ensures c.deref-2.ensures.value in
    c.refill.ensures ∙ around_edited ks from to a b order holds new F is
