-- A timer's settings as a record of bytes (document 02, F-10), sentence by sentence. docs/RECORDS.md has the same byte by byte.
use Rattle.std.specs.Prelude.{◌≡◌, Bool, cond, not, ◌&&◌, ◌||◌, List, [], ◌∷◌, ◌++◌, ℕ, ◌+◌, ◌-◌, ◌*◌, ◌/◌, ◌%◌, eqb, ltb, leb, length, get_or, drop}
use Rattle.tim.specs.declared.Inst.{Inst}
use Rattle.machine.specs.Step.{inst_good}
use Rattle.machine.specs.Refusals.{◌when◌, first}
use Rattle.settings.specs.declared.Settings.{Settings}
use Rattle.settings.specs.declared.Stored.{Stored}
use Rattle.settings.specs.declared.Read.{Read}

-- ---- "all little-endian"

abbrev pub one : ℕ → List ℕ
one n = n % 256 ∷ []

abbrev pub two : ℕ → List ℕ
two n = n % 256 ∷ one (n / 256)

abbrev pub four : ℕ → List ℕ
four n = n % 256 ∷ n / 256 % 256 ∷ n / 256 / 256 % 256 ∷ one (n / 256 / 256 / 256)

-- a byte that is not there reads 0
abbrev pub byte_at : List ℕ → ℕ → ℕ
byte_at s i = get_or s i 0

abbrev pub two_at : List ℕ → ℕ → ℕ
two_at s i = byte_at s i + 256 * byte_at s (i + 1)

abbrev pub four_at : List ℕ → ℕ → ℕ
four_at s i = two_at s i + 65536 * two_at s (i + 2)

-- ---- the bytes of a timer's settings

-- "number, width, channels, bus (from 0, in the Rust's order), enable word, enable bit, one byte each, and the interrupt in four". A bus counts from 1 on a board
abbrev pub body : Inst → List ℕ
body t = one t.n ++ (one t.width ++ (one t.channels ++ (one (t.apb - 1) ++ (one t.en_reg ++ (one t.en_bit ++ four t.irq)))))

-- "a two-byte length (bytes after it), a two-byte kind, then the body"
abbrev pub record_of : ℕ → List ℕ → List ℕ
record_of kind body = two (2 + length body) ++ (two kind ++ body)

-- "Kind 2 adds one byte, always 1, for manual mode"; "writing uses kind 2 only for a manual timer"
unfoldable pub encode : Inst → List ℕ
encode t = cond t.manual (record_of 2 (body t ++ (1 ∷ []))) (record_of 1 (body t))

-- ---- the settings that bytes hold

abbrev pub length_of : List ℕ → ℕ
length_of s = two_at s 0

abbrev pub kind_of : List ℕ → ℕ
kind_of s = two_at s 2

-- "Kind 1 reads as manual off"
unfoldable pub decode : List ℕ → Inst
decode s = record {
  n = byte_at s 4;
  width = byte_at s 5;
  channels = byte_at s 6;
  apb = byte_at s 7 + 1;
  irq = four_at s 10;
  en_reg = byte_at s 8;
  en_bit = byte_at s 9;
  manual = eqb (kind_of s) 2;
}

-- ---- "Checks": `first` of a list is the first number that applies, 0 where none does

-- "when fewer bytes .. are present than the record needs or its length is below 2": it needs two bytes, and behind them as many as they say
unfoldable pub cut_short : List ℕ → Bool
cut_short s = ltb (length s) 2 || (ltb (length_of s) 2 || ltb (length s) (2 + length_of s))

-- a reader knows the kinds from 1 to its latest
unfoldable pub strange_kind : ℕ → List ℕ → Bool
strange_kind latest s = ltb (kind_of s) 1 || ltb latest (kind_of s)

-- "Kind 1: ..; length 12. Kind 2 ..; length 13."
unfoldable pub wrong_length : List ℕ → Bool
wrong_length s = (eqb (kind_of s) 1 && not (eqb (length_of s) 12)) || (eqb (kind_of s) 2 && not (eqb (length_of s) 13))

-- "An added byte other than 1"
unfoldable pub wrong_added : List ℕ → Bool
wrong_added s = eqb (kind_of s) 2 && not (eqb (byte_at s 14) 1)

-- "a bus the Rust lacks, an interrupt above 2^32 − 1, or a setting outside document 01's limits": `inst_good` is set-up's own test
unfoldable pub good : Inst → Bool
good t = inst_good t && (leb 1 t.apb && leb t.apb 4) && leb t.irq 4294967295

-- "An added byte other than 1, a bus the Rust lacks, .., gives 1"
unfoldable pub wrong_settings : List ℕ → Bool
wrong_settings s = wrong_added s || not (good (decode s))

-- "13 'cut short' .., 14 'strange kind', 15 'wrong length' for its kind, in that order and all before 1"
unfoldable pub read_number : ℕ → List ℕ → ℕ
read_number latest s =
    first
    ((13 when cut_short s) ∷ (14 when strange_kind latest s) ∷ (15 when wrong_length s) ∷ (1 when wrong_settings s) ∷ [])

-- "for a write, places"
unfoldable pub write_number : Inst → ℕ → ℕ
write_number t places = first ((13 when ltb places (length (encode t))) ∷ (1 when not (good t)) ∷ [])

-- ---- what the functions hand back

abbrev pub settings_of : Inst → Settings
settings_of t = record {
  number = t.n;
  width = t.width;
  channels = t.channels;
  bus = t.apb;
  word = t.en_reg;
  bit = t.en_bit;
  irq = t.irq;
  manual = cond t.manual 1 0;
}

-- a record that took so many bytes
abbrev pub served : ℕ → Inst → Read
served count t = record { number = 0; count = count; timer = settings_of t }

-- "return value 0 and count 0" (document 01)
abbrev pub turned_away : ℕ → Read
turned_away number = record {
  number = number;
  count = 0;
  timer = record { number = 0; width = 0; channels = 0; bus = 0; word = 0; bit = 0; irq = 0; manual = 0 };
}

-- a reader of the kinds up to the latest, of the record at the front
unfoldable pub read : ℕ → List ℕ → Read
read latest s = cond (eqb (read_number latest s) 0) (served (2 + length_of s) (decode s)) (turned_away (read_number latest s))

-- the timer that eight numbers give; any mode but 0 is manual
abbrev pub given : ℕ → ℕ → ℕ → ℕ → ℕ → ℕ → ℕ → ℕ → Inst
given number width channels bus word bit irq manual = record {
  n = number;
  width = width;
  channels = channels;
  apb = bus;
  irq = irq;
  en_reg = word;
  en_bit = bit;
  manual = not (eqb manual 0);
}

-- the writer's answer, and what the places that were lent to it hold then: the record and the places behind it as they were, or what they held
pub record Writes (t : Inst) (lent left : List ℕ) (r : Stored) : Type 0 where
  pub number : r.number ≡ write_number t (length lent)
  pub count : r.count ≡ cond (eqb (write_number t (length lent)) 0) (length (encode t)) 0
  pub places : left ≡ cond (eqb (write_number t (length lent)) 0) (encode t ++ drop (length (encode t)) lent) lent
