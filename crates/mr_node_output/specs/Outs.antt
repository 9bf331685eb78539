-- What a call on a node gives out.
use Rattle.std.specs.Prelude.{◌≡◌, ℕ, List, [], ◌∷◌, ◌++◌, Bool, true, false, Option, Some, None, refl}
use Rattle.std.specs.Coded.{Coded, code_by, coded×, coded_ℕ, coded_bool, coded_list, coded_option}
use Rattle.mr_links.specs.LinkId.{coded_id}
use Rattle.mr_links.specs.declared.link_id.LinkId.{LinkId}
use Rattle.mr_node_output.specs.Address.{AddressState, address_code}

-- What is done to the stream, to the file and on the link on which a step was made.
pub record Output : Type 0 where
  pub grown : List ℕ  -- the texts that a master's stream grew by
  pub appended : List ℕ  -- what the append-only file grows by
  pub replaced : Option (List ℕ)  -- what the file is replaced by
  pub said : List ℕ  -- what is sent on the link

-- nothing
abbrev pub no_output : Output
no_output = record { grown = []; appended = []; replaced = None; said = [] }

-- texts of effects, which go to the stream and to the file
abbrev pub growth : List ℕ → Output
growth texts = record no_output { grown = texts; appended = texts }

pub record OutsState : Type 0 where
  pub link : Option LinkId  -- the link that the step was made on
  pub grown : List ℕ  -- the texts that a master's stream grew by
  pub appended : List ℕ  -- what the append-only file grows by
  pub replaced : Option (List ℕ)  -- what the file is replaced by
  pub fed : List LinkId  -- the links of replicas, to which what the stream grew by is sent
  pub reply : List ℕ  -- what is sent on the link
  pub closes : Bool  -- the link is closed behind it
  pub closed : List LinkId  -- links of replicas that are closed
  pub used : Option (List ℕ)  -- the fresh id that was taken
  pub follows : Option AddressState  -- whom the node follows from now on
  pub halts : Bool  -- a client asked that the program end

abbrev pub outs_code : Coded OutsState
outs_code = code_by (Option LinkId × (List ℕ × (List ℕ × (Option (List ℕ) × (List LinkId × (List ℕ × (Bool × (List LinkId × (Option (List ℕ) × (Option AddressState × Bool))))))))))
    (coded× (coded_option coded_id) (coded× (coded_list coded_ℕ) (coded× (coded_list coded_ℕ) (coded× (coded_option (coded_list coded_ℕ)) (coded× (coded_list coded_id)
    (coded× (coded_list coded_ℕ) (coded× coded_bool (coded× (coded_list coded_id) (coded× (coded_option (coded_list coded_ℕ)) (coded× (coded_option address_code) coded_bool))))))))))
    (λ o. (o.link, (o.grown, (o.appended, (o.replaced, (o.fed, (o.reply, (o.closes, (o.closed, (o.used, (o.follows, o.halts)))))))))))
    (λ p. record {
      link = p.0;
      grown = p.1.0;
      appended = p.1.1.0;
      replaced = p.1.1.1.0;
      fed = p.1.1.1.1.0;
      reply = p.1.1.1.1.1.0;
      closes = p.1.1.1.1.1.1.0;
      closed = p.1.1.1.1.1.1.1.0;
      used = p.1.1.1.1.1.1.1.1.0;
      follows = p.1.1.1.1.1.1.1.1.1.0;
      halts = p.1.1.1.1.1.1.1.1.1.1;
    }) (λ _. refl)

abbrev pub no_outs : OutsState
no_outs = record { link = None; grown = []; appended = []; replaced = None; fed = []; reply = []; closes = false; closed = []; used = None; follows = None; halts = false }

-- the outs of a step that gave this out, and nothing else
abbrev pub outs_with : Option LinkId → Output → OutsState
outs_with link out = record no_outs { link = link; grown = out.grown; appended = out.appended; replaced = out.replaced; reply = out.said }

-- one thing that a step gives out
pub data OutState : Type 0 where
  grow : List ℕ → OutState
  append : List ℕ → OutState
  replace : List ℕ → OutState
  send : LinkId → List ℕ → OutState
  close : LinkId → OutState
  use_id : List ℕ → OutState
  follow : AddressState → OutState
  halt : OutState

abbrev pub grown_outs : List ℕ → List OutState
grown_outs [] = []
grown_outs (b ∷ bytes) = grow (b ∷ bytes) ∷ []

abbrev pub appended_outs : List ℕ → List OutState
appended_outs [] = []
appended_outs (b ∷ bytes) = append (b ∷ bytes) ∷ []

-- a file may be replaced by an empty one
abbrev pub replaced_outs : Option (List ℕ) → List OutState
replaced_outs None = []
replaced_outs (Some bytes) = replace bytes ∷ []

-- to each of these the same
abbrev pub fed_outs : List ℕ → List LinkId → List OutState
fed_outs bytes [] = []
fed_outs bytes (link ∷ links) = send link bytes ∷ fed_outs bytes links

-- where there is no link, nothing is sent and none is closed
abbrev pub sent_outs : Option LinkId → List ℕ → List OutState
sent_outs None bytes = []
sent_outs (Some link) [] = []
sent_outs (Some link) (b ∷ bytes) = send link (b ∷ bytes) ∷ []

abbrev pub closing_outs : Option LinkId → Bool → List OutState
closing_outs None closes = []
closing_outs (Some link) true = close link ∷ []
closing_outs (Some link) false = []

abbrev pub closed_outs : List LinkId → List OutState
closed_outs [] = []
closed_outs (link ∷ links) = close link ∷ closed_outs links

abbrev pub used_outs : Option (List ℕ) → List OutState
used_outs None = []
used_outs (Some id) = use_id id ∷ []

abbrev pub followed_outs : Option AddressState → List OutState
followed_outs None = []
followed_outs (Some address) = follow address ∷ []

abbrev pub halted_outs : Bool → List OutState
halted_outs true = halt ∷ []
halted_outs false = []

-- what changes with a change of roles, and whether the program is to end
abbrev pub role_outs : OutsState → List OutState
role_outs o = used_outs o.used ++ (followed_outs o.follows ++ halted_outs o.halts)

-- what is sent, and which links are closed behind that
abbrev pub reply_outs : OutsState → List OutState
reply_outs o = sent_outs o.link o.reply ++ (closing_outs o.link o.closes ++ (closed_outs o.closed ++ role_outs o))

-- in their order: what the stream grows by, what is done to the file, only then what replicas and the client are sent, and the rest
abbrev pub outs_of : OutsState → List OutState
outs_of o = grown_outs o.grown ++ (appended_outs o.appended ++ (replaced_outs o.replaced ++ (fed_outs o.grown o.fed ++ reply_outs o)))

-- nothing is given out behind the reply
pub record EndsWithReply (o : OutsState) : Type 0 where
  pub stays : o.closes ≡ false
  pub none_closed : o.closed ≡ []
  pub none_used : o.used ≡ None
  pub none_followed : o.follows ≡ None
  pub goes_on : o.halts ≡ false
