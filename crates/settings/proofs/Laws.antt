-- What is written reads back, what reads is what would be written, and the kinds (`kept : Kept`).
use mathlib.Core.Path.{◌≡◌, refl, sym, ap, ◌∙◌}
use mathlib.Core.Bool.{Bool, true, false, cond, not, ◌&&◌, ◌||◌}
use mathlib.Core.List.{List, [], ◌∷◌, ◌++◌}
use Prim.Native.Nat.{ℕ, ◌+◌, ◌-◌, ◌*◌, ◌/◌, ◌%◌, ◌<◌, ◌≤◌}
use native.Mathlib.Omega.{arith}
use lib.Dec.{eqb, ltb, leb}
use lib.ListN.{length, get_or, take}
use borrow.Author.Tests.{ltb-false, leb-true, eqb-true, eqb-false, lt-ltb, le-ltb, eq-eqb, ne_eqb, not-false}
use Rattle.machine.specs.Refusals.{first}
use Rattle.tim.specs.declared.Inst.{Inst}
use Rattle.settings.specs.Record.{four, byte_at, length_of, kind_of, encode, decode, cut_short, strange_kind, wrong_length, wrong_added, wrong_settings, good, read_number, served, turned_away, read}
use Rattle.settings.specs.Kept.{Kept}
use Rattle.settings.proofs.Tests.{and_left, and_right, or_left, or_right, or-false, places, take_places, four-back, four_bytes, byte-back}

-- ---- the limits as numbers

record Small (t : Inst) : Type 0 where
  n : t.n < 256
  width : t.width < 256
  channels : t.channels < 256
  apb-1 : 1 ≤ t.apb
  apb : t.apb ≤ 4
  word : t.en_reg < 256
  bit : t.en_bit < 256
  irq : t.irq ≤ 4294967295

sixteen-or : (w : ℕ) → (eqb w 16 || eqb w 32) ≡ true → w < 256
sixteen-or w h = go (eqb w 16) refl
  where
    go : (b : Bool) → eqb w 16 ≡ b → w < 256
    go true e = omega (arith, eqb-true w 16 e)
    go false e = omega (arith, eqb-true w 32 (rw e at h))

small : (t : Inst) → good t ≡ true → Small t
unfolding good
small t h =
    let n : Bool = leb 1 t.n in
    let n₁ : Bool = leb t.n 24 in
    let w : Bool = eqb t.width 16 || eqb t.width 32 in
    let c : Bool = leb t.channels 4 in
    let r : Bool = leb t.en_reg 8 in
    let b : Bool = leb t.en_bit 31 in
    let a : Bool = leb 1 t.apb in
    let a₁ : Bool = leb t.apb 4 in
    let i : Bool = leb t.irq 4294967295 in
    let h₆ : (n && n₁ && w && c && r && b && (a && a₁)) ≡ true = and_left (n && n₁ && w && c && r && b && (a && a₁)) i h in
    let h₅ : (n && n₁ && w && c && r && b) ≡ true = and_left (n && n₁ && w && c && r && b) (a && a₁) h₆ in
    let h₄ : (n && n₁ && w && c && r) ≡ true = and_left (n && n₁ && w && c && r) b h₅ in
    let h₃ : (n && n₁ && w && c) ≡ true = and_left (n && n₁ && w && c) r h₄ in
    let h₂ : (n && n₁ && w) ≡ true = and_left (n && n₁ && w) c h₃ in
    let h₁ : (n && n₁) ≡ true = and_left (n && n₁) w h₂ in
    let bus : (a && a₁) ≡ true = and_right (n && n₁ && w && c && r && b) (a && a₁) h₆ in
    record {
      n = omega (arith, leb-true t.n 24 (and_right n n₁ h₁));
      width = sixteen-or t.width (and_right (n && n₁) w h₂);
      channels = omega (arith, leb-true t.channels 4 (and_right (n && n₁ && w) c h₃));
      apb-1 = leb-true 1 t.apb (and_left a a₁ bus);
      apb = leb-true t.apb 4 (and_right a a₁ bus);
      word = omega (arith, leb-true t.en_reg 8 (and_right (n && n₁ && w && c) r h₄));
      bit = omega (arith, leb-true t.en_bit 31 (and_right (n && n₁ && w && c && r) b h₅));
      irq = leb-true t.irq 4294967295 (and_right (n && n₁ && w && c && r && b && (a && a₁)) i h);
    }

-- ---- the checks

none-applies : (latest : ℕ) (s : List ℕ) → cut_short s ≡ false → strange_kind latest s ≡ false → wrong_length s ≡ false → wrong_settings s ≡ false
    → read_number latest s ≡ 0
unfolding read_number first
none-applies latest s a b c d = rw (a, b, c, d)

record Passed (latest : ℕ) (s : List ℕ) : Type 0 where
  long : cut_short s ≡ false
  known : strange_kind latest s ≡ false
  fitting : wrong_length s ≡ false
  held : wrong_settings s ≡ false

passed : (latest : ℕ) (s : List ℕ) → read_number latest s ≡ 0 → Passed latest s
unfolding read_number first
passed latest s h = go (cut_short s) refl (strange_kind latest s) refl (wrong_length s) refl (wrong_settings s) refl
  where
    go : (a : Bool) → cut_short s ≡ a → (b : Bool) → strange_kind latest s ≡ b → (c : Bool) → wrong_length s ≡ c → (d : Bool) → wrong_settings s ≡ d → Passed latest s
    go true e b f c g d k = absurd (omega (arith, rw e at h))
    go false e true f c g d k = absurd (omega (arith, rw (e, f) at h))
    go false e false f true g d k = absurd (omega (arith, rw (e, f, g) at h))
    go false e false f false g true k = absurd (omega (arith, rw (e, f, g, k) at h))
    go false e false f false g false k = record { long = e; known = f; fitting = g; held = k }

is-served : (latest : ℕ) (s : List ℕ) → read_number latest s ≡ 0 → read latest s ≡ served (2 + length_of s) (decode s)
unfolding read
is-served latest s h = rw h

-- ---- "What is written reads back the same"

same-timer : (t : Inst) (n w c a i r b : ℕ) (m : Bool) → n ≡ t.n → w ≡ t.width → c ≡ t.channels → a ≡ t.apb → i ≡ t.irq → r ≡ t.en_reg
    → b ≡ t.en_bit → m ≡ t.manual
    → (record { n = n; width = w; channels = c; apb = a; irq = i; en_reg = r; en_bit = b; manual = m }) ≡ t
same-timer t n w c a i r b m en ew ec ea ei er eb em = rw (en, ew, ec, ea, ei, er, eb, em)

-- a record's bytes at the front of a list, by its kind
module _ (t : Inst) where
  abbrev front : ℕ → List ℕ → List ℕ
  front kind tail =
      (11 + kind) ∷ 0 ∷ kind ∷ 0 ∷ (t.n % 256) ∷ (t.width % 256) ∷ (t.channels % 256) ∷ ((t.apb - 1) % 256) ∷ (t.en_reg % 256) ∷ (t.en_bit % 256)
      ∷ (t.irq % 256) ∷ (t.irq / 256 % 256) ∷ (t.irq / 256 / 256 % 256) ∷ (t.irq / 256 / 256 / 256 % 256) ∷ tail

  encoded-2 : t.manual ≡ true → encode t ≡ front 2 (1 ∷ [])
  unfolding encode
  encoded-2 e = rw e

  encoded-1 : t.manual ≡ false → encode t ≡ front 1 []
  unfolding encode
  encoded-1 e = rw e

  decoded : (kind : ℕ) (tail : List ℕ) → good t ≡ true → eqb (kind_of (front kind tail)) 2 ≡ t.manual → decode (front kind tail) ≡ t
  unfolding decode
  decoded kind tail g m =
      let k = small t g in
      let bus : (t.apb - 1) % 256 + 1 ≡ t.apb = omega (arith, k.apb-1, k.apb) in
      same-timer t _ _ _ _ _ _ _ _ (byte-back t.n k.n) (byte-back t.width k.width) (byte-back t.channels k.channels) bus
      (four-back t.irq k.irq) (byte-back t.en_reg k.word) (byte-back t.en_bit k.bit) m

  back-2 : (rest : List ℕ) → good t ≡ true → t.manual ≡ true → read 2 (front 2 (1 ∷ rest)) ≡ served 15 t
  unfolding cut_short strange_kind wrong_length wrong_added wrong_settings
  back-2 rest g m =
      let d : decode (front 2 (1 ∷ rest)) ≡ t = decoded 2 (1 ∷ rest) g (sym m) in
      let l : 15 ≤ length (front 2 (1 ∷ rest)) = omega arith in
      let z : read_number 2 (front 2 (1 ∷ rest)) ≡ 0 = none-applies 2 (front 2 (1 ∷ rest))
      (or-false (ltb (length (front 2 (1 ∷ rest))) 2) (ltb (length_of (front 2 (1 ∷ rest))) 2 || ltb (length (front 2 (1 ∷ rest))) 15)
      (le-ltb (length (front 2 (1 ∷ rest))) 2 (omega (arith, l)))
      (or-false (ltb (length_of (front 2 (1 ∷ rest))) 2) (ltb (length (front 2 (1 ∷ rest))) 15) refl (le-ltb (length (front 2 (1 ∷ rest))) 15 l)))
      refl refl (rw (d, g)) in
      is-served 2 (front 2 (1 ∷ rest)) z ∙ rw d

  back-1 : (rest : List ℕ) → good t ≡ true → t.manual ≡ false → read 2 (front 1 rest) ≡ served 14 t
  unfolding cut_short strange_kind wrong_length wrong_added wrong_settings
  back-1 rest g m =
      let d : decode (front 1 rest) ≡ t = decoded 1 rest g (sym m) in
      let l : 14 ≤ length (front 1 rest) = omega arith in
      let z : read_number 2 (front 1 rest) ≡ 0 = none-applies 2 (front 1 rest)
      (or-false (ltb (length (front 1 rest)) 2) (ltb (length_of (front 1 rest)) 2 || ltb (length (front 1 rest)) 14)
      (le-ltb (length (front 1 rest)) 2 (omega (arith, l)))
      (or-false (ltb (length_of (front 1 rest)) 2) (ltb (length (front 1 rest)) 14) refl (le-ltb (length (front 1 rest)) 14 l)))
      refl refl (rw (d, g)) in
      is-served 2 (front 1 rest) z ∙ rw d

  reads-back : (rest : List ℕ) → good t ≡ true → read 2 (encode t ++ rest) ≡ served (length (encode t)) t
  reads-back rest g = go t.manual refl
    where
      go : (m : Bool) → t.manual ≡ m → read 2 (encode t ++ rest) ≡ served (length (encode t)) t
      go true e = rw (encoded-2 e) (back-2 rest g e)
      go false e = rw (encoded-1 e) (back-1 rest g e)

-- ---- what reads is what would be written

cons_same : {a b : ℕ} {xs ys : List ℕ} → a ≡ b → xs ≡ ys → (a ∷ xs) ≡ (b ∷ ys)
cons_same {a} {b} {xs} {ys} e f = ap (λ (x : ℕ). x ∷ xs) e ∙ ap (λ (r : List ℕ). b ∷ r) f

-- the bytes of a kind that were read, and those of the settings they give
same_bytes : (b0 b1 b2 b3 b4 b5 b6 b7 b8 b9 b10 b11 b12 b13 l k : ℕ) (tail : List ℕ)
    → b0 < 256 → b1 < 256 → b2 < 256 → b3 < 256 → b4 < 256 → b5 < 256 → b6 < 256 → b7 < 256 → b8 < 256 → b9 < 256
    → b10 < 256 → b11 < 256 → b12 < 256 → b13 < 256 → b0 + 256 * b1 ≡ l → l < 256 → b2 + 256 * b3 ≡ k → k < 256
    → (b0 ∷ b1 ∷ b2 ∷ b3 ∷ b4 ∷ b5 ∷ b6 ∷ b7 ∷ b8 ∷ b9 ∷ b10 ∷ b11 ∷ b12 ∷ b13 ∷ tail)
    ≡ l ∷ 0 ∷ k ∷ 0 ∷ (b4 % 256) ∷ (b5 % 256) ∷ (b6 % 256) ∷ ((b7 + 1 - 1) % 256) ∷ (b8 % 256) ∷ (b9 % 256)
    ∷ (four (b10 + 256 * b11 + 65536 * (b12 + 256 * b13)) ++ tail)
same_bytes b0 b1 b2 b3 b4 b5 b6 b7 b8 b9 b10 b11 b12 b13 l k tail h0 h1 h2 h3 h4 h5 h6 h7 h8 h9 h10 h11 h12 h13 el hl ek hk =
    let e0 : b0 ≡ l = omega arith in
    let e1 : b1 ≡ 0 = omega arith in
    let e2 : b2 ≡ k = omega arith in
    let e3 : b3 ≡ 0 = omega arith in
    let e7 : (b7 + 1 - 1) % 256 ≡ b7 = omega arith in
    cons_same e0 (cons_same e1 (cons_same e2 (cons_same e3 (cons_same (sym (byte-back b4 h4)) (cons_same (sym (byte-back b5 h5))
    (cons_same (sym (byte-back b6 h6)) (cons_same (sym e7) (cons_same (sym (byte-back b8 h8)) (cons_same (sym (byte-back b9 h9))
    (sym (ap (λ (r : List ℕ). r ++ tail) (four_bytes b10 b11 b12 b13 h10 h11 h12 h13))))))))))))

module _ (s : List ℕ) (byte : (i : ℕ) → get_or s i 0 < 256) (h : read_number 2 s ≡ 0) where
  p : Passed 2 s
  p = passed 2 s h

  held : good (decode s) ≡ true
  unfolding wrong_settings
  held = not-false (good (decode s)) (or_right (wrong_added s) (not (good (decode s))) p.held)

  long : 2 + length_of s ≤ length s
  unfolding cut_short
  long =
      let c : Bool = ltb (length s) (2 + length_of s) in
      ltb-false (length s) (2 + length_of s) (or_right (ltb (length_of s) 2) c (or_right (ltb (length s) 2) (ltb (length_of s) 2 || c) p.long))

  kind-least : 1 ≤ kind_of s
  unfolding strange_kind
  kind-least = ltb-false (kind_of s) 1 (or_left (ltb (kind_of s) 1) (ltb 2 (kind_of s)) p.known)

  kind-most : kind_of s ≤ 2
  unfolding strange_kind
  kind-most = ltb-false 2 (kind_of s) (or_right (ltb (kind_of s) 1) (ltb 2 (kind_of s)) p.known)

  length-1 : kind_of s ≡ 1 → length_of s ≡ 12
  unfolding wrong_length
  length-1 e = eqb-true (length_of s) 12 (not-false _ (sym (rw (eq-eqb (kind_of s) 1 e)) ∙ or_left (eqb (kind_of s) 1 && not (eqb (length_of s) 12)) (eqb (kind_of s) 2 && not (eqb (length_of s) 13)) p.fitting))

  length-2 : kind_of s ≡ 2 → length_of s ≡ 13
  unfolding wrong_length
  length-2 e = eqb-true (length_of s) 13 (not-false _ (sym (rw (eq-eqb (kind_of s) 2 e)) ∙ or_right (eqb (kind_of s) 1 && not (eqb (length_of s) 12)) (eqb (kind_of s) 2 && not (eqb (length_of s) 13)) p.fitting))

  added : kind_of s ≡ 2 → get_or s 14 0 ≡ 1
  unfolding wrong_settings wrong_added
  added e = eqb-true (get_or s 14 0) 1 (not-false _ (sym (rw (eq-eqb (kind_of s) 2 e)) ∙ or_left (eqb (kind_of s) 2 && not (eqb (byte_at s 14) 1)) (not (good (decode s))) p.held))

  taken-1 : kind_of s ≡ 1 → take 14 s ≡ encode (decode s)
  unfolding encode decode places
  taken-1 e =
      take_places 14 0 s (omega (arith, long, length-1 e))
      ∙ same_bytes _ _ _ _ _ _ _ _ _ _ _ _ _ _ 12 1 [] (byte 0) (byte 1) (byte 2) (byte 3) (byte 4) (byte 5) (byte 6) (byte 7) (byte 8) (byte 9) (byte 10)
      (byte 11) (byte 12) (byte 13) (length-1 e) (omega arith) e (omega arith)
      ∙ rw (ne_eqb (kind_of s) 2 (omega (arith, e)))

  taken-2 : kind_of s ≡ 2 → take 15 s ≡ encode (decode s)
  unfolding encode decode places
  taken-2 e =
      take_places 15 0 s (omega (arith, long, length-2 e))
      ∙ same_bytes _ _ _ _ _ _ _ _ _ _ _ _ _ _ 13 2 (get_or s 14 0 ∷ []) (byte 0) (byte 1) (byte 2) (byte 3) (byte 4) (byte 5) (byte 6) (byte 7) (byte 8) (byte 9)
      (byte 10) (byte 11) (byte 12) (byte 13) (length-2 e) (omega arith) e (omega arith)
      ∙ rw (eq-eqb (kind_of s) 2 e, added e)

  canonical : (good (decode s) ≡ true) × (take (read 2 s).count s ≡ encode (decode s))
  canonical = (held, rw (is-served 2 s h) (go (eqb (kind_of s) 1) refl))
    where
      go : (b : Bool) → eqb (kind_of s) 1 ≡ b → take (2 + length_of s) s ≡ encode (decode s)
      go true e = rw (length-1 (eqb-true (kind_of s) 1 e)) (taken-1 (eqb-true (kind_of s) 1 e))
      go false e =
          let k : kind_of s ≡ 2 = omega (arith, kind-least, kind-most, eqb-false (kind_of s) 1 e) in
          rw (length-2 k) (taken-2 k)

-- ---- the kinds

strange-at : (latest : ℕ) (s : List ℕ) → 1 ≤ kind_of s → kind_of s ≤ latest → strange_kind latest s ≡ false
unfolding strange_kind
strange-at latest s h k = or-false _ _ (le-ltb (kind_of s) 1 h) (le-ltb latest (kind_of s) k)

kind-1-alone : (s : List ℕ) → kind_of s ≡ 1 → read 1 s ≡ read 2 s
unfolding read read_number first
kind-1-alone s e = rw (strange-at 1 s (omega (arith, e)) (omega (arith, e)), strange-at 2 s (omega (arith, e)) (omega (arith, e)))

kind-2-strange : (s : List ℕ) → cut_short s ≡ false → kind_of s ≡ 2 → read 1 s ≡ turned_away 14
unfolding read read_number first strange_kind
kind-2-strange s c e = rw (c, le-ltb (kind_of s) 1 (omega (arith, e)), lt-ltb 1 (kind_of s) (omega (arith, e)))

manual-off : (s : List ℕ) → kind_of s ≡ 1 → (read 2 s).timer.manual ≡ 0
unfolding read decode
manual-off s e = go (eqb (read_number 2 s) 0) refl
  where
    go : (b : Bool) → eqb (read_number 2 s) 0 ≡ b → (read 2 s).timer.manual ≡ 0
    go true h = rw (h, ne_eqb (kind_of s) 2 (omega (arith, e)))
    go false h = rw h

kind-written : (t : Inst) → kind_of (encode t) ≡ cond t.manual 2 1
unfolding encode
kind-written t = go t.manual refl
  where
    go : (m : Bool) → t.manual ≡ m → kind_of (encode t) ≡ cond t.manual 2 1
    go true e = rw e
    go false e = rw e

pub kept : Kept
kept = record {
  reads-back = reads-back;
  canonical = canonical;
  kind-1-alone = kind-1-alone;
  kind-2-strange = kind-2-strange;
  manual-off = manual-off;
  kind-written = kind-written;
}
