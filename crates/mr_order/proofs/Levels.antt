-- Parts that are counted stay counted.
use Rattle.std.proofs.Common.{◌≡◌, ℕ, ◌+◌, ◌-◌, ◌/◌, ◌<◌, ◌≤◌, List, [], ◌∷◌, ◌++◌, length, take, drop, true, false, sym, ap, ◌∙◌, arith, length-append}
use Rattle.std.specs.Prelude.{nat_le}
use Rattle.std.specs.List.{All, flat_map, remove}
use Rattle.std.proofs.lemmas.Bool.Decides.{nat_tests}
use Rattle.std.proofs.lemmas.List.{append-nil, length-drop, length-take-le}
use Rattle.std.proofs.lemmas.List.Concat.{flat_map-append}
use Rattle.std.proofs.lemmas.List.Edits.{length-remove}
use Rattle.std.proofs.lemmas.List.Elements.{All-append, All-cons, All-drop, All-head, All-nil, All-take}
use Rattle.mr_order.specs.Parts.{IsSound, AreCounted, IsLevel, length_limit}
use Rattle.mr_order.proofs.Flat.{flat_cut}

le_true : (a b : ℕ) → nat_le a b ≡ true → a ≤ b
le_true a b e = grind (arith, nat_tests)

le_false : (a b : ℕ) → b < a → nat_le a b ≡ false
le_false a b lt = grind (arith, nat_tests)

module _ {P A : Type 0} (items : P → List A) (is_kept : P → Type 0) where
  -- there are items where there are parts
  pub flat_some : (parts : List P) → All (IsSound items is_kept) parts → 0 < length parts → 0 < length (flat_map items parts)
  flat_some [] sound some = absurd (omega arith)
  flat_some (p ∷ ps) sound some =
      let here = (All-head (IsSound items is_kept) p ps sound).some in
      let long = length-append (items p) (flat_map items ps) in
      omega arith

  pub level_one : (p : P) (x : A) → is_kept p → items p ≡ x ∷ [] → IsLevel items is_kept (p ∷ []) 1
  level_one p x kept is = record {
    counted = record {
      sound = All-cons (IsSound items is_kept) p [] (record { kept = kept; some = omega (arith, ap length is) }) (All-nil (IsSound items is_kept));
      counted = sym (ap length (append-nil (items p) ∙ is));
      small = omega arith;
    };
    few = omega arith;
  }

  module _ (parts news : List P) (len : ℕ) (c : AreCounted items is_kept parts len) (sound : All (IsSound items is_kept) news) where
    pub counted_same : flat_map items news ≡ flat_map items parts → AreCounted items is_kept news len
    counted_same same = record { sound = sound; counted = c.counted ∙ ap length (sym same); small = c.small }

    pub counted_remove : (at : ℕ) → flat_map items news ≡ remove (flat_map items parts) at → at < length (flat_map items parts) → AreCounted items is_kept news (len - 1)
    counted_remove at is within = record {
      sound = sound;
      counted = (let was = c.counted in let long = length-remove (flat_map items parts) at within in let e = ap length is in omega arith);
      small = let s = c.small in omega arith;
    }

  -- the parts in front of a place among the parts, and the others
  pub counted_take : (parts : List P) (len half tail : ℕ) → AreCounted items is_kept parts len → tail ≡ length (flat_map items (drop half parts)) → AreCounted items is_kept (take half parts) (len - tail)
  counted_take parts len half tail c is = record {
    sound = All-take (IsSound items is_kept) half parts c.sound;
    counted = (let was = c.counted in let cut = ap length (flat_cut items parts half) in let long = length-append (flat_map items (take half parts)) (flat_map items (drop half parts)) in omega arith);
    small = let s = c.small in omega arith;
  }

  pub counted_drop : (parts : List P) (len half tail : ℕ) → AreCounted items is_kept parts len → tail ≡ length (flat_map items (drop half parts)) → AreCounted items is_kept (drop half parts) tail
  counted_drop parts len half tail c is = record {
    sound = All-drop (IsSound items is_kept) half parts c.sound;
    counted = is;
    small = (let was = c.counted in let s = c.small in let cut = ap length (flat_cut items parts half) in let long = length-append (flat_map items (take half parts)) (flat_map items (drop half parts)) in omega arith);
  }

  pub counted_append : (parts others : List P) (len more : ℕ) → AreCounted items is_kept parts len → AreCounted items is_kept others more → len + more ≤ length_limit → AreCounted items is_kept (parts ++ others) (len + more)
  counted_append parts others len more c d small = record {
    sound = All-append (IsSound items is_kept) parts others c.sound d.sound;
    counted = (let was = c.counted in let has = d.counted in let e = ap length (flat_map-append items parts others) in let long = length-append (flat_map items parts) (flat_map items others) in omega arith);
    small = small;
  }

  -- the halves of a full level
  pub record AreHalves (parts : List P) (len half total : ℕ) : Type 0 where
    pub head : IsLevel items is_kept (take half parts) (len - total)
    pub head_some : 0 < length (flat_map items (take half parts))
    pub head_room : nat_le 32 (length (take half parts)) ≡ false
    pub tail : IsLevel items is_kept (drop half parts) total
    pub tail_some : 0 < length (flat_map items (drop half parts))
    pub tail_room : nat_le 32 (length (drop half parts)) ≡ false

  pub halves : (parts : List P) (len half total : ℕ) → IsLevel items is_kept parts len → nat_le 32 (length parts) ≡ true → half ≡ length parts / 2 → total ≡ length (flat_map items (drop half parts)) → AreHalves parts len half total
  halves parts len half total level full middle is =
      let many = le_true 32 (length parts) full in
      let few = level.few in
      let front = length-take-le half parts (omega arith) in
      let back = length-drop half parts in
      record {
        head = record { counted = counted_take parts len half total level.counted is; few = omega arith };
        head_some = flat_some (take half parts) (All-take (IsSound items is_kept) half parts level.counted.sound) (omega arith);
        head_room = le_false 32 (length (take half parts)) (omega arith);
        tail = record { counted = counted_drop parts len half total level.counted is; few = omega arith };
        tail_some = flat_some (drop half parts) (All-drop (IsSound items is_kept) half parts level.counted.sound) (omega arith);
        tail_room = le_false 32 (length (drop half parts)) (omega arith);
      }
