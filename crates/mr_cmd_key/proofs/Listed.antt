-- The keys that are seen at a moment, as they are listed.
use Rattle.std.proofs.Common.{◌≡◌, ℤ, List, [], ◌∷◌, Bool, true, false, ◌&&◌, Option, Some, None, refl, sym, ◌∙◌, ap}
use Rattle.std.specs.Prelude.{filter, is_some, if◌then◌else◌}
use Rattle.std.specs.FinMap.{get, keys}
use Rattle.mr_map.specs.Bytes.{Bytes}
use Rattle.mr_keyspace.specs.Dataset.{Dataset}
use Rattle.mr_data.specs.Dataset.{live, seen}
use Rattle.mr_keyspace.specs.declared.value.Entry.{Entry}
use Rattle.mr_data.proofs.Seeing.{get-seen}
use Rattle.mr_data.proofs.SeenKeys.{keys_seen}
use Rattle.mr_cmd_key.specs.declared.key_ask.KindName.{KindName}
use Rattle.mr_cmd_key.specs.Listing.{is_matched, is_of_kind, listed, is_listed_at, listed_at}

filter_twice : (p q r : Bytes → Bool) → ((x : Bytes) → (q x && p x) ≡ r x) → (xs : List Bytes) → filter p (filter q xs) ≡ filter r xs
filter_twice p q r h [] = refl
filter_twice p q r h (x ∷ xs) =
    elim (q x) as (λ b. filter p (if b then x ∷ filter q xs else filter q xs) ≡ (if b && p x then x ∷ filter r xs else filter r xs)) [
      | true ↦ ap (λ ys. if p x then x ∷ ys else ys) (filter_twice p q r h xs)
      | false ↦ filter_twice p q r h xs
    ]
    ∙ ap (λ b. if b then x ∷ filter r xs else filter r xs) (h x)

-- a key that is listed is there
listed_there : (a : Bool) (k : Option KindName) (o : Option Entry) → (is_some o && (a && is_of_kind k o)) ≡ (a && is_of_kind k o)
listed_there true k None = refl
listed_there false k None = refl
listed_there a k (Some e) = refl

pub listed_seen : (now : ℤ) (pattern : Option Bytes) (k : Option KindName) (m : Dataset) → listed pattern k (seen now m) ≡ listed_at now pattern k m
listed_seen now pattern k m =
    ap (filter (λ q. is_matched pattern q && is_of_kind k (get (seen now m) q))) (keys_seen now m)
    ∙ filter_twice _ (λ q. is_some (live now (get m q))) (is_listed_at now pattern k m) (λ q.
    ap (λ o. is_some (live now (get m q)) && (is_matched pattern q && is_of_kind k o)) (get-seen now m q)
    ∙ listed_there (is_matched pattern q) k (live now (get m q))) (keys m)

-- where all is live, those that match are listed, unless a kind is asked for
pub listed_all : (now : ℤ) (pattern : Option Bytes) (k : Option KindName) (m : Dataset) → is_some k ≡ false → seen now m ≡ m → listed_at now pattern k m ≡ filter (is_matched pattern) (keys m)
listed_all now pattern (Some k) m any all = cc
listed_all now pattern None m any all =
    sym (filter_twice (is_matched pattern) (λ q. is_some (live now (get m q))) (is_listed_at now pattern None m) (λ q. turned (live now (get m q)) (is_matched pattern q)) (keys m))
    ∙ ap (filter (is_matched pattern)) (sym (keys_seen now m) ∙ ap keys all)
  where
    turned : (o : Option Entry) (a : Bool) → (is_some o && a) ≡ (a && is_of_kind None o)
    turned None true = refl
    turned None false = refl
    turned (Some e) true = refl
    turned (Some e) false = refl
