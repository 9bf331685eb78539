-- One line after another.
use Rattle.std.proofs.Common.{◌≡◌, ◌≢◌, ℕ, List, [], ◌∷◌, ◌++◌, Option, refl, sym, ap, subst, ◌∙◌, append_assoc, append-nil}
use Rattle.std.specs.Io.KnownBytes.{Appends}
use Rattle.std.proofs.KnownBytes.{Appends-trans, Appends-nil}
use Rattle.std.proofs.lemmas.List.Elements.{All-nil, All-push}
use Rattle.mr_inline.specs.Bytes.{line_feed}
use Rattle.law_refinement.specs.State.{WorldState}
use Rattle.mr_world_player.specs.Playing.{Answers}
use Rattle.mr_world_player.specs.Scripts.{ArePlayed, Goes, IsPart, Moment, line_of, lines_of}

-- one more line
plays_then : (size : ℕ) (w : WorldState) (ms : List Moment) (v : WorldState) (told : List ℕ) (m : Moment) → ArePlayed size w ms v told → IsPart m.front → Answers size v (line_of m) m.world m.told
    → ArePlayed size w (ms ++ m ∷ []) m.world (told ++ m.told)
plays_then size w [] v told m h part a = (
  part,
  subst (λ z. Answers size z (line_of m) m.world m.told) h.0 a,
  ([], (refl, refl), ap (λ z. z ++ m.told) h.1 ∙ sym (append-nil m.told)),
)
plays_then size w (n ∷ ns) v told m h part a = (
  h.0,
  h.1,
  (h.2.0 ++ m.told, plays_then size n.world ns v h.2.0 m h.2.1 part a, ap (λ z. z ++ m.told) h.2.2 ∙ append_assoc n.told h.2.0 m.told),
)

lines_then : (ms : List Moment) (m : Moment) → lines_of (ms ++ m ∷ []) ≡ lines_of ms ++ line_of m
lines_then [] m = append-nil (line_of m)
lines_then (n ∷ ns) m = ap (λ z. line_of n ++ z) (lines_then ns m) ∙ sym (append_assoc (line_of n) (lines_of ns) (line_of m))

-- nothing was read
pub goes_nowhere : (size : ℕ) (w : WorldState) (old : Option (List ℕ)) → Goes size w [] old w [] old
goes_nowhere size w old = record { moments = []; told = []; played = (refl, refl); are = refl; part = All-nil (λ b. b ≢ line_feed); written = Appends-nil old }

-- a byte of a line
pub goes_further : (size : ℕ) (w : WorldState) (read : List ℕ) (old : Option (List ℕ)) (v : WorldState) (rest : List ℕ) (new : Option (List ℕ)) (byte : ℕ) → byte ≢ line_feed
    → Goes size w read old v rest new → Goes size w (read ++ byte ∷ []) old v (rest ++ byte ∷ []) new
goes_further size w read old v rest new byte other g = record {
  moments = g.moments;
  told = g.told;
  played = g.played;
  are = ap (λ z. z ++ byte ∷ []) g.are ∙ append_assoc (lines_of g.moments) rest (byte ∷ []);
  part = All-push (λ b. b ≢ line_feed) rest byte g.part other;
  written = g.written;
}

-- the end of one, which is played
pub goes_on : (size : ℕ) (w : WorldState) (read : List ℕ) (old : Option (List ℕ)) (v : WorldState) (rest : List ℕ) (mid : Option (List ℕ)) (byte : ℕ) (u : WorldState) (told : List ℕ) (new : Option (List ℕ))
    → byte ≡ line_feed → Goes size w read old v rest mid → Answers size v (rest ++ byte ∷ []) u told → Appends mid new told → Goes size w (read ++ byte ∷ []) old u [] new
goes_on size w read old v rest mid byte u told new is g a more =
    let m : Moment = record { front = rest; world = u; told = told } in
    let played : Answers size v (line_of m) u told = subst (λ (z : ℕ). Answers size v (rest ++ z ∷ []) u told) is a in
    let whole : read ++ byte ∷ [] ≡ lines_of (g.moments ++ m ∷ []) =
    ap (λ z. z ++ byte ∷ []) g.are ∙ (append_assoc (lines_of g.moments) rest (byte ∷ []) ∙ (ap (λ (z : ℕ). lines_of g.moments ++ (rest ++ z ∷ [])) is ∙ sym (lines_then g.moments m))) in
    record {
      moments = g.moments ++ m ∷ [];
      told = g.told ++ told;
      played = plays_then size w g.moments v g.told m g.played g.part played;
      are = whole ∙ sym (append-nil (lines_of (g.moments ++ m ∷ [])));
      part = All-nil (λ b. b ≢ line_feed);
      written = Appends-trans old mid new g.told told g.written more;
    }
