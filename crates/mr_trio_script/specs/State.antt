-- A client's end of a link, and what its calls make of it.
use Rattle.std.specs.Prelude.{◌≡◌, ◌≢◌, ◌≤◌, ℕ, List, [], ◌++◌, length, take, drop, Bool, false, ◌||◌, Option, None, Some}
use Rattle.std.proofs.Common.{Global, Vec}
use Rattle.mr_links.specs.declared.link_id.LinkId.{LinkId}
use Rattle.mr_wire.specs.Wire.{ChangesLink, WireState, behind_read, behind_write, count_of, is_over, bytes_moved}
use Rattle.mr_wire.specs.declared.wire.Moved.{Moved}
use Rattle.mr_trio_script.specs.Replies.{IsReply}

pub record ClientState : Type 0 where
  pub link : LinkId
  pub waiting : List ℕ  -- what was asked and isn't sent yet
  pub came : List ℕ  -- what came and wasn't taken as a reply
  pub ended : Bool  -- the peer sends no more

-- nothing was asked on this link
abbrev pub begun : LinkId → ClientState
begun link = record { link = link; waiting = []; came = []; ended = false }

-- one request more was asked
abbrev pub asked : List ℕ → ClientState → ClientState
asked request a = record a { waiting = a.waiting ++ request }

-- A write moved a beginning of what waited.
pub record Sent (tells : Bool) (a b : ClientState) (s t : WireState) : Type 0 where
  pub answer : Moved
  pub within : count_of answer ≤ length a.waiting
  pub wire : ChangesLink s a.link (behind_write tells answer a.waiting) (bytes_moved tells answer a.waiting) t
  pub is : b ≡ record a { waiting = drop (count_of answer) a.waiting; ended = a.ended || is_over answer }

-- A read put bytes behind what had come.
pub record Heard (tells : Bool) (a b : ClientState) (s t : WireState) : Type 0 where
  pub answer : Moved
  pub buffer : List ℕ
  pub within : count_of answer ≤ length buffer
  pub wire : ChangesLink s a.link (behind_read tells answer buffer) [] t
  pub is : b ≡ record a { came = a.came ++ take (count_of answer) buffer; ended = a.ended || is_over answer }

-- The reply that begins what came was taken off it.
pub record TakesOff (a b : ClientState) (reply : List ℕ) : Type 0 where
  pub is_reply : IsReply reply
  pub came : a.came ≡ reply ++ b.came
  pub same : b ≡ record a { came = b.came }

-- No whole reply begins it.
pub record HasNone (a b : ClientState) : Type 0 where
  pub same : b ≡ a
  pub none : (text rest : List ℕ) → IsReply text → a.came ≢ text ++ rest

-- .. by what is answered
abbrev pub TakesReply : ClientState → ClientState → Option (Vec ℕ Global) → Type 0
TakesReply a b None = HasNone a b
TakesReply a b (Some reply) = TakesOff a b reply.items
