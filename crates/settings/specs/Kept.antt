-- "Post settings kept across years" (document 02, F-10): what holds of every record. Proved in proofs/Laws.antt (`kept : Kept`).
use Rattle.std.specs.Prelude.{◌≡◌, true, false, cond, List, ◌++◌, ℕ, ◌<◌, length, get_or, take}
use Rattle.tim.specs.declared.Inst.{Inst}
use Rattle.settings.specs.Record.{encode, decode, kind_of, cut_short, good, read, read_number, served, turned_away}

pub record Kept : Type 0 where
  -- "What is written reads back the same", whatever bytes follow it
  pub reads-back : (t : Inst) (rest : List ℕ) → good t ≡ true → read 2 (encode t ++ rest) ≡ served (length (encode t)) t
  -- and what reads is what would be written: no timer has two records
  pub canonical : (s : List ℕ) → ((i : ℕ) → get_or s i 0 < 256) → read_number 2 s ≡ 0
      → (good (decode s) ≡ true) × (take (read 2 s).count s ≡ encode (decode s))
  -- "A second reader, of kind 1 alone, answers 14 to kind 2", and is the first one on kind 1
  pub kind-1-alone : (s : List ℕ) → kind_of s ≡ 1 → read 1 s ≡ read 2 s
  pub kind-2-strange : (s : List ℕ) → cut_short s ≡ false → kind_of s ≡ 2 → read 1 s ≡ turned_away 14
  -- "Kind 1 reads as manual off, and writing uses kind 2 only for a manual timer"
  pub manual-off : (s : List ℕ) → kind_of s ≡ 1 → (read 2 s).timer.manual ≡ 0
  pub kind-written : (t : Inst) → kind_of (encode t) ≡ cond t.manual 2 1
