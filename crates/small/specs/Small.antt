-- Every small pilot (document 02, F-9): what stands at each place of the list, and what makes it the list that is asked for.
use Rattle.std.specs.Prelude.{◌≡◌, cond, ◌⊎◌, ℕ, ◌+◌, ◌-◌, ◌*◌, ◌/◌, ◌%◌, ◌≤◌, ◌<◌, ltb}
use Rattle.small.specs.declared.Listed.{Listed}

-- a pilot's setting; down is 0 for up, 1 for down
pub record Setting : Type 0 where
  pub reload : ℕ
  pub prescaler : ℕ
  pub compare : ℕ
  pub mode : ℕ
  pub down : ℕ

-- "all settings with reload and prescaler from 0 to n, compare from 0 to n + 1, mode 6 or 7, direction up or down"
pub record Within (n : ℕ) (s : Setting) : Type 0 where
  pub reload : s.reload ≤ n
  pub prescaler : s.prescaler ≤ n
  pub compare : s.compare ≤ n + 1
  pub mode : (s.mode ≡ 6) ⊎ (s.mode ≡ 7)
  pub down : s.down ≤ 1

-- "Order by reload, then prescaler, then compare, then mode, then up before down"
abbrev pub Before : Setting → Setting → Type 0
Before s t =
    (s.reload < t.reload)
    ⊎ ((s.reload ≡ t.reload)
    × ((s.prescaler < t.prescaler)
    ⊎ ((s.prescaler ≡ t.prescaler)
    × ((s.compare < t.compare)
    ⊎ ((s.compare ≡ t.compare)
    × ((s.mode < t.mode)
    ⊎ ((s.mode ≡ t.mode)
    × (s.down < t.down))))))))

-- "there are 4 × (n + 1)² × (n + 2)"
unfoldable pub count : ℕ → ℕ
count n = 4 * ((n + 1) * (n + 1)) * (n + 2)

-- place k, "counted from 0": the direction changes at each place, the mode at every second, the compare at every fourth, the prescaler when
-- all n + 2 compares have been, the reload when all n + 1 prescalers have been
abbrev pub setting_at : ℕ → ℕ → Setting
setting_at n k =
    record {
      reload = k / 4 / (n + 2) / (n + 1);
      prescaler = k / 4 / (n + 2) % (n + 1);
      compare = k / 4 % (n + 2);
      mode = 6 + k / 2 % 2;
      down = k % 2;
    }

-- the place of a setting
abbrev pub place_of : ℕ → Setting → ℕ
place_of n s = (((s.reload * (n + 1) + s.prescaler) * (n + 2) + s.compare) * 2 + (s.mode - 6)) * 2 + s.down

-- The list of n is the one that is asked for: every place has a setting within the limits; "each appears", at the place that `place_of` gives, "a
-- single time", at no other; and a later place has the later setting.
pub record Listing (n : ℕ) : Type 0 where
  pub within : (k : ℕ) → k < count n → Within n (setting_at n k)
  pub appears : (s : Setting) → Within n s → (place_of n s < count n) × (setting_at n (place_of n s) ≡ s)
  pub single : (s : Setting) (k : ℕ) → setting_at n k ≡ s → k ≡ place_of n s
  pub rises : (j k : ℕ) → j < k → Before (setting_at n j) (setting_at n k)

-- ---- what is handed out: the number and a setting

abbrev pub given : ℕ → Setting → Listed
given number s =
    record {
      number = number;
      reload = s.reload;
      prescaler = s.prescaler;
      compare = s.compare;
      mode = s.mode;
      down = s.down;
    }

-- "mode 0 and the rest 0"
abbrev pub nothing : Setting
nothing = record { reload = 0; prescaler = 0; compare = 0; mode = 0; down = 0 }

-- "12 .. for n above 7, before anything is listed"; "a k past the end is served with mode 0 and the rest 0"
unfoldable pub listed : ℕ → ℕ → Listed
listed n k = cond (ltb 7 n) (given 12 nothing) (cond (ltb k (count n)) (given 0 (setting_at n k)) (given 0 nothing))
