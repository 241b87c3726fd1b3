-- The protocol in propositions, as the report's lines 3 to 25 and document 01 set it out: when a step is permitted, and what it then does.
use Rattle.std.specs.Prelude.{ℕ, suc, ◌+◌, ◌*◌, ◌<◌, ◌≡◌, true, false, ◌⊎◌, ◌↔◌, List, length, get_or, Ok, Err}
use Rattle.keys.specs.Keys.{member}
use Rattle.tables.specs.Lists.{read_count, read_key, write_count, write_key, write_value}
use Rattle.tables.specs.Sites.{site_count, holds}
use Rattle.tables.specs.declared.Tables.{Tables}
use Rattle.steps.specs.Kinds.{version, place}
use Rattle.steps.specs.declared.Step.{Step}
use Rattle.steps.specs.declared.Step.TheVariants as step
use Rattle.numbers.specs.Numbers.{step_number}
use Rattle.numbers.specs.declared.StepRefusal.{StepRefusal}
use Rattle.numbers.specs.declared.StepRefusal.TheVariants.{Unusable}
use Rattle.steps.specs.Answers.{Answered}
use Rattle.steps.specs.declared.Answer.TheVariants as answer
use Rattle.machine.specs.Parts.{place_of, version_at, value_at, recorded_of, delivered_at, closed_at, cast_by, carried_to}
use Rattle.machine.specs.Usable.{usable}
use Rattle.machine.specs.Effects.{answering}
use Rattle.machine.specs.Steps.{step_of}
use Rattle.machine.specs.declared.State.{State}

-- ---- tables

-- a site holds a key if its group does
abbrev pub Holds : Tables → ℕ → ℕ → Type 0
Holds T s k = holds T s k ≡ true

abbrev pub Reads : Tables → ℕ → ℕ → Type 0
Reads T t k = (i : ℕ) × (i < read_count T t) × (read_key T t i ≡ k)

abbrev pub Writes : Tables → ℕ → ℕ → Type 0
Writes T t k = (i : ℕ) × (i < write_count T t) × (write_key T t i ≡ k)

-- k is a key of t
abbrev pub KeyOf : Tables → ℕ → ℕ → Type 0
KeyOf T t k = Reads T t k ⊎ Writes T t k

-- R(t) is the sites that hold any key of t; V(t) those that hold any key t reads
abbrev pub InR : Tables → ℕ → ℕ → Type 0
InR T t s = (k : ℕ) × KeyOf T t k × Holds T s k

abbrev pub InV : Tables → ℕ → ℕ → Type 0
InV T t s = (k : ℕ) × Reads T t k × Holds T s k

-- t is local if each site of R(t) holds all keys of t
abbrev pub Local : Tables → ℕ → Type 0
Local T t = (s : ℕ) → InR T t s → (k : ℕ) → KeyOf T t k → Holds T s k

-- two conflict if one reads a key that the other writes
abbrev pub Conflict : Tables → ℕ → ℕ → Type 0
Conflict T t u = (k : ℕ) × ((Reads T t k × Writes T u k) ⊎ (Writes T t k × Reads T u k))

-- ---- lists

-- the list m is l with x at i, and the same elsewhere
pub record Only {A : Type 0} (d : A) (l m : List A) (i : ℕ) (x : A) : Type 0 where
  pub there : get_or m i d ≡ x
  pub others : (j : ℕ) → (j ≡ i → ⊥) → get_or m j d ≡ get_or l j d
  pub long : length m ≡ length l

module _ (st : State) where
  abbrev T : Tables
  T = st.tables

  abbrev pub IsTxn : ℕ → Type 0
  IsTxn t = t < T.txns

  abbrev pub IsSite : ℕ → Type 0
  IsSite s = s < site_count T

  -- ---- the queue

  -- the queue of a site is what it has delivered and not closed, by place
  abbrev pub Queued : ℕ → ℕ → Type 0
  Queued s t = IsTxn t × (delivered_at st t s ≡ true) × (closed_at st t s ≡ 0)

  -- of equal places the lower transaction number first
  abbrev pub Before : ℕ → ℕ → Type 0
  Before u t = (place_of st u < place_of st t) ⊎ ((place_of st u ≡ place_of st t) × (u < t))

  -- none in the queue of s is before t
  abbrev pub AtHead : ℕ → ℕ → Type 0
  AtHead s t = (u : ℕ) → Queued s u → Before u t → ⊥

  -- submitted, not yet delivered at s, and R(t) has s
  abbrev pub Waits : ℕ → ℕ → Type 0
  Waits s t = IsTxn t × (0 < place_of st t) × (delivered_at st t s ≡ false) × InR T t s

  -- the next is the lowest place that waits
  abbrev pub Next : ℕ → ℕ → Type 0
  Next s t = Waits s t × ((u : ℕ) → Waits s u → Before u t → ⊥)

  -- ---- votes and verdicts

  -- t's i-th read was recorded, and has the recorded version at s
  abbrev pub Current : ℕ → ℕ → ℕ → Type 0
  Current s t i = (recorded_of st t i ≡ true) × (version_at st s (read_key T t i) ≡ (get_or st.parts.readversions (t * 8 + i) (version 0)).0)

  -- yes exactly if each read key held by s has the recorded version there
  abbrev pub Certifies : ℕ → ℕ → Type 0
  Certifies s t = (i : ℕ) → i < read_count T t → Holds T s (read_key T t i) → Current s t i

  -- v is the vote of s on t: 1 yes or 2 no if s is in V(t), else 0
  pub record Votes (s t v : ℕ) : Type 0 where
    pub some : InV T t s → (v ≡ 1) ⊎ (v ≡ 2)
    pub yes : InV T t s → (v ≡ 1) ↔ Certifies s t
    pub none : (InV T t s → ⊥) → v ≡ 0

  -- s holds its own vote once it is cast, and those carried to it
  abbrev pub HasVote : ℕ → ℕ → ℕ → Type 0
  HasVote s t f = ((f ≡ s) × (0 < cast_by st t s)) ⊎ ((f ≡ s → ⊥) × (member (carried_to st t s) f ≡ true))

  -- the sites whose votes s holds together hold all read keys
  abbrev pub Covered : ℕ → ℕ → Type 0
  Covered s t = (k : ℕ) → Reads T t k → (f : ℕ) × IsSite f × HasVote s t f × Holds T f k

  abbrev pub AllYes : ℕ → ℕ → Type 0
  AllYes s t = (f : ℕ) → IsSite f → HasVote s t f → cast_by st t f ≡ 1

  -- commit if every vote held is yes, else abort; with no reads it is commit
  abbrev pub Commits : ℕ → ℕ → Type 0
  Commits s t = (read_count T t ≡ 0) ⊎ (Covered s t × AllYes s t)

  abbrev pub Aborts : ℕ → ℕ → Type 0
  Aborts s t = (0 < read_count T t) × Covered s t × (AllYes s t → ⊥)

  -- a version is left for each key that t writes at s
  abbrev pub Room : ℕ → ℕ → Type 0
  Room s t = (k : ℕ) → Writes T t k → Holds T s k → version_at st s k < 4294967295

  -- ---- when a step is permitted

  abbrev pub MayDeliver : ℕ → ℕ → Type 0
  MayDeliver s t = Next s t × ((u : ℕ) → Queued s u → Conflict T t u → ⊥)

  abbrev pub MayCommit : ℕ → ℕ → Type 0
  MayCommit s t = Commits s t × AtHead s t × Room s t

  abbrev pub Permits : Step → Type 0
  Permits (step.Read t i s) = IsTxn t × (i < read_count T t) × IsSite s × Holds T s (read_key T t i) × (recorded_of st t i ≡ false)
  Permits (step.Submit t) = IsTxn t × (place_of st t ≡ 0) × ((i : ℕ) → i < read_count T t → recorded_of st t i ≡ true)
  Permits (step.Deliver s) = IsSite s × ((t : ℕ) × MayDeliver s t)
  Permits (step.Carry t from to) =
      IsTxn t × IsSite from × IsSite to × InR T t to × (Local T t → ⊥) × (from ≡ to → ⊥) × (0 < cast_by st t from) × (HasVote to t from → ⊥)
  Permits (step.Close t s) = IsSite s × InR T t s × Queued s t × (MayCommit s t ⊎ Aborts s t)
  Permits step.Settle = Unit {0}

  -- ---- what a permitted step does: its answer, and the next state part by part

  -- the stores as they were; or t committed at s: each written key that s holds has one version more and its new value
  pub record SameStores (next : State) : Type 0 where
    pub versions : next.parts.versions ≡ st.parts.versions
    pub values : next.parts.values ≡ st.parts.values

  pub record Stores (next : State) (s t : ℕ) : Type 0 where
    pub raised : (i : ℕ) → i < write_count T t → Holds T s (write_key T t i)
        → (version_at next s (write_key T t i) ≡ suc (version_at st s (write_key T t i))) × (value_at next s (write_key T t i) ≡ write_value T t i)
    pub others : (r k : ℕ) → k < 64 → ((r ≡ s) × Writes T t k × Holds T s k → ⊥)
        → (version_at next r k ≡ version_at st r k) × (value_at next r k ≡ value_at st r k)
    pub long : (length next.parts.versions ≡ length st.parts.versions) × (length next.parts.values ≡ length st.parts.values)

  pub record SameReads (next : State) : Type 0 where
    pub recorded : next.parts.recorded ≡ st.parts.recorded
    pub readversions : next.parts.readversions ≡ st.parts.readversions
    pub readvalues : next.parts.readvalues ≡ st.parts.readvalues

  pub record SameQueues (next : State) : Type 0 where
    pub places : next.parts.places ≡ st.parts.places
    pub delivered : next.parts.delivered ≡ st.parts.delivered
    pub closed : next.parts.closed ≡ st.parts.closed

  pub record SameVotes (next : State) : Type 0 where
    pub cast : next.parts.cast ≡ st.parts.cast
    pub carried : next.parts.carried ≡ st.parts.carried

  -- READ records the version and value of t's i-th read key at s, and answers them
  pub record DoesRead (t i s : ℕ) (a : Answered) (next : State) : Type 0 where
    pub answered : a ≡ Ok (answer.Read (version (version_at st s (read_key T t i))) (value_at st s (read_key T t i)))
    pub recorded : Only false st.parts.recorded next.parts.recorded (t * 8 + i) true
    pub readversions : Only (version 0) st.parts.readversions next.parts.readversions (t * 8 + i) (version (version_at st s (read_key T t i)))
    pub readvalues : Only 0 st.parts.readvalues next.parts.readvalues (t * 8 + i) (value_at st s (read_key T t i))
    pub stores : SameStores next
    pub queues : SameQueues next
    pub votes : SameVotes next

  -- how many were submitted so far
  pub data Submitted : ℕ → ℕ → Type 0 where
    none : Submitted 0 0
    placed : {n m : ℕ} → Submitted n m → 0 < place_of st n → Submitted (suc n) (suc m)
    other : {n m : ℕ} → Submitted n m → place_of st n ≡ 0 → Submitted (suc n) m

  -- SUBMIT gives t the place one more than the number submitted so far, and answers it
  pub record DoesSubmit (t : ℕ) (a : Answered) (next : State) : Type 0 where
    pub count : ℕ
    pub counted : Submitted T.txns count
    pub answered : a ≡ Ok (answer.Submitted (place (suc count)))
    pub places : Only (place 0) st.parts.places next.parts.places t (place (suc count))
    pub delivered : next.parts.delivered ≡ st.parts.delivered
    pub closed : next.parts.closed ≡ st.parts.closed
    pub stores : SameStores next
    pub reads : SameReads next
    pub votes : SameVotes next

  -- DELIVER puts the next into the queue of s with the vote of s, and answers both
  pub record DoesDeliver (s : ℕ) (a : Answered) (next : State) : Type 0 where
    pub txn : ℕ
    pub vote : ℕ
    pub may : MayDeliver s txn
    pub votes : Votes s txn vote
    pub answered : a ≡ Ok (answer.Delivered txn vote)
    pub delivered : Only false st.parts.delivered next.parts.delivered (txn * 16 + s) true
    pub cast : Only 0 st.parts.cast next.parts.cast (txn * 16 + s) vote
    pub places : next.parts.places ≡ st.parts.places
    pub closed : next.parts.closed ≡ st.parts.closed
    pub carried : next.parts.carried ≡ st.parts.carried
    pub stores : SameStores next
    pub reads : SameReads next

  -- CARRY hands the vote of from on t to to, and answers it
  pub record DoesCarry (t from to : ℕ) (a : Answered) (next : State) : Type 0 where
    pub answered : a ≡ Ok (answer.Carried (cast_by st t from))
    pub held : ℕ
    pub carried : Only 0 st.parts.carried next.parts.carried (t * 16 + to) held
    pub given : member held from ≡ true
    pub others : (f : ℕ) → (f ≡ from → ⊥) → member held f ≡ member (carried_to st t to) f
    pub cast : next.parts.cast ≡ st.parts.cast
    pub stores : SameStores next
    pub reads : SameReads next
    pub queues : SameQueues next

  -- CLOSE closes t at s by its verdict and answers that: a commit stores, an abort does not
  pub record DoesClose (t s : ℕ) (a : Answered) (next : State) : Type 0 where
    pub verdict : ℕ
    pub answered : a ≡ Ok (answer.Closed verdict)
    pub does : ((verdict ≡ 1) × MayCommit s t × Stores next s t) ⊎ ((verdict ≡ 2) × Aborts s t × SameStores next)
    pub closed : Only 0 st.parts.closed next.parts.closed (t * 16 + s) verdict
    pub places : next.parts.places ≡ st.parts.places
    pub delivered : next.parts.delivered ≡ st.parts.delivered
    pub reads : SameReads next
    pub votes : SameVotes next

  -- ---- SETTLE

  -- no CLOSE, no DELIVER, no CARRY is permitted
  abbrev pub NoClose : Type 0
  NoClose = (t s : ℕ) → Permits (step.Close t s) → ⊥

  abbrev pub NoDeliver : Type 0
  NoDeliver = (s : ℕ) → Permits (step.Deliver s) → ⊥

  abbrev pub NoCarry : Type 0
  NoCarry = (t from to : ℕ) → Permits (step.Carry t from to) → ⊥

  -- lowest place, then from, then to
  abbrev pub Earlier : ℕ → ℕ → ℕ → ℕ → ℕ → ℕ → Type 0
  Earlier u g r t from to = Before u t ⊎ ((u ≡ t) × ((g < from) ⊎ ((g ≡ from) × (r < to))))

  -- the first step permitted among CLOSE (lowest site, then queue order), DELIVER (lowest site), CARRY
  pub data First : Step → Type 0 where
    close : (t s : ℕ) → Permits (step.Close t s) → ((u r : ℕ) → r < s → Permits (step.Close u r) → ⊥)
        → ((u : ℕ) → Before u t → Permits (step.Close u s) → ⊥) → First (step.Close t s)
    deliver : (s : ℕ) → NoClose → Permits (step.Deliver s) → ((r : ℕ) → r < s → Permits (step.Deliver r) → ⊥) → First (step.Deliver s)
    carry : (t from to : ℕ) → NoClose → NoDeliver → Permits (step.Carry t from to)
        → ((u g r : ℕ) → Earlier u g r t from to → Permits (step.Carry u g r) → ⊥) → First (step.Carry t from to)

  -- what a step other than SETTLE does
  abbrev pub Effect : Step → Answered → State → Type 0
  Effect (step.Read t i s) a next = DoesRead t i s a next
  Effect (step.Submit t) a next = DoesSubmit t a next
  Effect (step.Deliver s) a next = DoesDeliver s a next
  Effect (step.Carry t from to) a next = DoesCarry t from to a next
  Effect (step.Close t s) a next = DoesClose t s a next
  Effect step.Settle a next = ⊥

  abbrev pub Does : Step → Answered → State → Type 0
  Does x a next = (next.tables ≡ st.tables) × Effect x a next

-- the first step permitted, again and again until none is: so many steps
pub data Settling : State → ℕ → State → Type 0 where
  over : {st : State} → NoClose st → NoDeliver st → NoCarry st → Settling st 0 st
  go : {st next end : State} {x : Step} {n : ℕ} (a : Answered) → First st x → Does st x a next → Settling next n end → Settling st (suc n) end

-- what a permitted step does, SETTLE too, which answers how many steps it took
abbrev pub Protocol : State → Step → Answered → State → Type 0
Protocol st (step.Read t i s) a next = Does st (step.Read t i s) a next
Protocol st (step.Submit t) a next = Does st (step.Submit t) a next
Protocol st (step.Deliver s) a next = Does st (step.Deliver s) a next
Protocol st (step.Carry t from to) a next = Does st (step.Carry t from to) a next
Protocol st (step.Close t s) a next = Does st (step.Close t s) a next
Protocol st step.Settle a next = (n : ℕ) × (a ≡ Ok (answer.Settled n)) × Settling st n next

-- ---- demand 2

pub record Demand2 (st : State) : Type 0 where
  -- a step on an unusable state answers 10 before all else
  pub unusable : usable st ≡ false → (x : Step) → step_of st x ≡ answering (Err Unusable) st
  -- on any other, a permitted step does what the protocol says
  pub taken : usable st ≡ true → (x : Step) → Permits st x → Protocol st x (step_of st x).answer (step_of st x).next
  -- and one that is not permitted is refused: the state stays equal in every part
  pub refused : usable st ≡ true → (x : Step) → (Permits st x → ⊥) → (r : StepRefusal) × (0 < step_number r) × (step_of st x ≡ answering (Err r) st)
