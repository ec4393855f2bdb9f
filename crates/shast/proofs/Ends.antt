-- Where the last and-or list of a row of entries ends.
use Rattle.std.proofs.Common.{◌≡◌, ℕ, zero, suc, ◌+◌, ◌<◌, List as Row, [], ◌∷◌, length, map, take, get_or, refl, add-one, arith}
use Rattle.shast.specs.declared.tree.Command.TheViews.{out-Entry}
use Rattle.shast.specs.declared.tree.Entry.{Entry}
use Rattle.shast.specs.Tree.{AnEntry, entries_of, entry}
use Rattle.shast.specs.Nodes.{command_end, commands_end}
use Rattle.shast.specs.View.{view_content, view_entry}
use Rattle.shast.proofs.Seen.{entry_seen}

-- where the last of the entries up to a place ends
abbrev pub end_up_to : ℕ → Row Entry → ℕ → ℕ
end_up_to before xs i = commands_end before (entries_of (map view_entry (take i xs)))

-- where an entry ends, after what ends before it
abbrev entry_end : ℕ → AnEntry → ℕ
entry_end before (entry what background blank comment) = command_end before what

-- past the first entry, the others end as they do after that one's end
entry_first : (before i : ℕ) (x : Entry) (xs : Row Entry) →
    end_up_to before (x ∷ xs) (suc i) ≡ end_up_to (entry_end before (view_entry x)) xs i
entry_first before i x xs = rw (entry_seen x) refl

-- an entry of the code ends where what it is ends
entry_is : (before : ℕ) (x : Entry) →
    entry_end before (view_entry x) ≡ command_end before (view_content (out-Entry x).what)
entry_is before x = rw (entry_seen x) refl

-- with the entry at an index, they end where that one does
end_suc : (before : ℕ) (xs : Row Entry) (i : ℕ) (d : Entry) → i < length xs →
    end_up_to before xs (suc i) ≡ command_end (end_up_to before xs i) (view_content (out-Entry (get_or xs i d)).what)
end_suc before [] i d h = absurd (omega arith)
end_suc before (x ∷ xs) zero d h = rw (entry_first before zero x xs) (entry_is before x)
end_suc before (x ∷ xs) (suc i) d h =
    rw (entry_first before (suc i) x xs, entry_first before i x xs)
    (end_suc (entry_end before (view_entry x)) xs i d (omega arith))

-- one entry more
pub end_more : (before : ℕ) (xs : Row Entry) (i : ℕ) (d : Entry) → i < length xs →
    end_up_to before xs (i + 1) ≡ command_end (end_up_to before xs i) (view_content (out-Entry (get_or xs i d)).what)
end_more before xs i d h = rw add-one (end_suc before xs i d h)
