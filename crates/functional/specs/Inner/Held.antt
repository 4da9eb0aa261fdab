-- How the lent areas hold a state of the search, for the private functions. Definitions only.
use Rattle.std.specs.Prelude.{ℕ, zero, suc, ◌+◌, ◌-◌, ◌*◌, ◌%◌, ◌≤◌, ◌<◌, ◌≡◌, Bool, true, false, List, [], ◌∷◌, leb, ltb, length, get_or, set, drop, Float}
use Rattle.std.specs.Float.{nan}
use Rattle.refusals.specs.Limits.{max_readings}
use Rattle.candidate_balls.specs.Losing.{losing_balls}
use Rattle.search_rules.specs.Limits.{functional_channels}
use Rattle.areas.specs.Parts.{part, tab, Frame}
use Rattle.sums.specs.EachChannel.{Sums}
use Rattle.candidate.specs.declared.Candidate.{Candidate}
use Rattle.candidate_balls.specs.declared.Ball.{Ball}
use Rattle.candidate.specs.Boxes.{at, restrict}
use Rattle.candidate.specs.Balls.{held_at, balls_at, meant, Rooted}
use Rattle.candidate.specs.Cuts.{cut_losing}
use Rattle.candidate.specs.Dominated.{is_dominated}
use Rattle.candidate.specs.Losses.{lose_inside}
use Rattle.functional.specs.declared.Plan.{Plan}
use Rattle.search_rules.specs.declared.Facing.{Facing}
use Rattle.search_rules.specs.Functional.{Task, Living, outer_ball, living_at, cut_back, range_box, lost_to, winners_to, joined_by, join_of, state_after, functional}

-- ---- the plan

abbrev pub task : Plan → Task
task q = record { run = q.run.now; n = q.n; channels = q.channels; m = q.m; penalty = q.penalty }

-- the plan is of a search within the limits, and has its running sums and the box of its ranges
pub record Sound (q : Plan) : Type 0 where
  pub short : q.n ≤ max_readings
  pub one : 1 ≤ q.channels
  pub two : q.channels ≤ functional_channels
  pub some : 1 ≤ q.m
  pub ripe : q.m ≤ q.n
  pub room : q.channels * (2 * (q.n + 1)) ≤ length q.sums.now
  pub sums : Sums q.run.now q.n q.channels q.sums.now
  pub range : q.range ≡ range_box (task q)

-- ---- a slot: 200 floats

abbrev pub Slots : Type 0
Slots = List (List Float)

abbrev pub slot_at : Slots → ℕ → List Float
slot_at slots j = get_or slots j []

-- each slot has its 200 floats
abbrev pub Whole : Slots → Type 0
Whole slots = (j : ℕ) → j < length slots → length (slot_at slots j) ≡ 200

unfoldable pub box_at : List Float → Candidate
box_at slot = record { lo = get_or slot 0 nan ∷ get_or slot 2 nan ∷ []; hi = get_or slot 1 nan ∷ get_or slot 3 nan ∷ [] }

unfoldable pub facing_at : List Float → Facing
facing_at slot = record { cx = get_or slot 4 nan; cy = get_or slot 5 nan; outer = get_or slot 6 nan; inner = get_or slot 7 nan }

-- the floats of its balls
abbrev pub ball_floats : List Float → List Float
ball_floats slot = drop 8 slot

-- four floats stored at p
unfoldable pub four_put : List Float → ℕ → Float → Float → Float → Float → List Float
four_put slot p a b c d = set (set (set (set slot p a) (p + 1) b) (p + 2) c) (p + 3) d

unfoldable pub put_box : List Float → Candidate → List Float
put_box slot x = four_put slot 0 (at x.lo 0) (at x.hi 0) (at x.lo 1) (at x.hi 1)

unfoldable pub put_facing : List Float → Facing → List Float
put_facing slot x = four_put slot 4 x.cx x.cy x.outer x.inner

-- `count` floats, xs, were stored at `to`, and nothing else was changed
pub record Copied (before after : List Float) (to : ℕ) (xs : List Float) (count : ℕ) : Type 0 where
  pub here : part after to count ≡ xs
  pub frame : Frame before after to count

-- a slot got the `count` balls at the front of `from`, and kept its box
pub record Balled (before after from : List Float) (count : ℕ) : Type 0 where
  pub balls : (i : ℕ) → i < count → held_at (ball_floats after) 0 i ≡ held_at from 0 i
  pub box : box_at after ≡ box_at before
  pub long : length after ≡ length before

-- slot `to` got the `count` balls of slot j, and the others stayed
pub record Brought (slots slots' : Slots) (to j count : ℕ) : Type 0 where
  pub slot : List Float
  pub balls : Balled (slot_at slots to) slot (ball_floats (slot_at slots j)) count
  pub put : slots' ≡ set slots to slot

-- each slot i before j was changed, by i and what it held, and those from j on were not
pub record Mapped (h : ℕ → List Float → List Float) (before after : Slots) (j : ℕ) : Type 0 where
  pub done : (i : ℕ) → i < j → slot_at after i ≡ h i (slot_at before i)
  pub rest : (i : ℕ) → j ≤ i → slot_at after i ≡ slot_at before i
  pub long : length after ≡ length before

-- ---- the balls of a candidate in an area of 192 floats

-- the area stands for the list of balls
pub record Balls (channels : ℕ) (area : List Float) (count : ℕ) (bs : List Ball) : Type 0 where
  pub list : balls_at channels area 0 count ≡ bs
  pub few : count ≤ losing_balls
  pub rooted : channels ≡ 1 → (i : ℕ) → i < count → Rooted (held_at area 0 i)

-- the balls that j rivals leave, as they are meant
unfoldable pub lost_by : ℕ → (ℕ → Ball) → ℕ → List Ball
lost_by channels g zero = []
lost_by channels g (suc j) = lose_inside (meant channels (g j)) (lost_by channels g j)

-- ---- the living candidates

-- what the indices have of each: its index, and its word
abbrev pub Entries : Type 0
Entries = List (List ℕ)

abbrev pub tau_at : Entries → ℕ → ℕ
tau_at entries j = get_or (get_or entries j []) 0 0

abbrev pub word_at : Entries → ℕ → ℕ
word_at entries j = get_or (get_or entries j []) 1 0

-- a word is the number of the candidate's balls, and 128 more where it is marked
unfoldable pub balls_in : ℕ → ℕ
balls_in word = word % (2 * losing_balls)

unfoldable pub is_marked : ℕ → Bool
is_marked word = ltb 127 word

-- the one that slot j and entry j stand for
unfoldable pub lived_at : ℕ → Slots → Entries → ℕ → Living
lived_at channels slots entries j =
    record { tau = tau_at entries j; box = box_at (slot_at slots j); losing = balls_at channels (ball_floats (slot_at slots j)) 0 (balls_in (word_at entries j)) }

unfoldable pub lived : ℕ → Slots → Entries → ℕ → List Living
lived channels slots entries count = tab (lived_at channels slots entries) count

-- the balls of a slot with its word: at most 64, on one channel with their roots, and where the word is marked they cut nothing from the box
pub record Kept (channels : ℕ) (slot : List Float) (word : ℕ) : Type 0 where
  pub balls : Balls channels (ball_floats slot) (balls_in word) (balls_at channels (ball_floats slot) 0 (balls_in word))
  pub uncut : is_marked word ≡ true → cut_losing channels (balls_at channels (ball_floats slot) 0 (balls_in word)) (box_at slot) ≡ box_at slot

-- those of candidate j
abbrev pub BallsOf : ℕ → Slots → Entries → ℕ → Type 0
BallsOf channels slots entries j = Kept channels (slot_at slots j) (word_at entries j)

pub record Sane (channels : ℕ) (slots : Slots) (entries : Entries) (count : ℕ) : Type 0 where
  pub each : (j : ℕ) → j < count → BallsOf channels slots entries j

-- two boxes have the same numbers
pub record SameBox (x y : Candidate) : Type 0 where
  pub low : at x.lo 0 ≡ at y.lo 0
  pub high : at x.hi 0 ≡ at y.hi 0
  pub low_beside : at x.lo 1 ≡ at y.lo 1
  pub high_beside : at x.hi 1 ≡ at y.hi 1

-- the box of a slot, narrowed by the ball that it holds
unfoldable pub narrowed_at : ℕ → List Float → Candidate
narrowed_at channels slot = restrict channels (outer_ball (facing_at slot)) (box_at slot)

-- the word of a slot whose box is narrowed: as many balls, and still marked only where the box stays
pub record Remark (channels : ℕ) (slot : List Float) (word word' : ℕ) : Type 0 where
  pub balls : balls_in word' ≡ balls_in word
  pub stays : is_marked word' ≡ true → (is_marked word ≡ true) × (narrowed_at channels slot ≡ box_at slot)

-- the words of the first j candidates are those of narrowed boxes, and nothing else was changed
pub record Remarked (channels : ℕ) (slots : Slots) (entries entries' : Entries) (j : ℕ) : Type 0 where
  pub done : (i : ℕ) → i < j → Remark channels (slot_at slots i) (word_at entries i) (word_at entries' i)
  pub taus : (i : ℕ) → tau_at entries' i ≡ tau_at entries i
  pub rest : (i : ℕ) → j ≤ i → get_or entries' i [] ≡ get_or entries i []
  pub long : length entries' ≡ length entries

-- candidate c stands in slot j, with a word, and nothing else was changed
pub record Stored (channels : ℕ) (slots slots' : Slots) (entries entries' : Entries) (j : ℕ) (c : Living) (word : ℕ) : Type 0 where
  pub living : lived_at channels slots' entries' j ≡ c
  pub sane : BallsOf channels slots' entries' j
  pub rest : (i : ℕ) → (i ≡ j → ⊥) → slot_at slots' i ≡ slot_at slots i
  pub rest_entries : (i : ℕ) → (i ≡ j → ⊥) → get_or entries' i [] ≡ get_or entries i []
  pub long : length slots' ≡ length slots
  pub long_entries : length entries' ≡ length entries

-- nothing was changed
pub record Unchanged (slots slots' : Slots) (entries entries' : Entries) : Type 0 where
  pub same : slots' ≡ slots
  pub same_entries : entries' ≡ entries

-- a candidate goes to slot j unless it is dominated
pub record Settled (channels : ℕ) (slots slots' : Slots) (entries entries' : Entries) (j : ℕ) (c : Living) (r : ℕ) : Type 0 where
  pub gone : is_dominated channels c.box ≡ true → (r ≡ j) × Unchanged slots slots' entries entries'
  pub stays : is_dominated channels c.box ≡ false → (r ≡ j + 1) × ((word : ℕ) × Stored channels slots slots' entries entries' j c word)

-- the index of each of `count` candidates is below t
pub record AllBelow (t : ℕ) (entries : Entries) (count : ℕ) : Type 0 where
  pub below : (j : ℕ) → j < count → tau_at entries j < t

-- those of the first j that are left once cut by their balls
unfoldable pub survivors_to : ℕ → List Living → ℕ → List Living
survivors_to channels living zero = []
survivors_to channels living (suc j) = joined_by channels (cut_back channels (living_at living j)) (survivors_to channels living j)

-- j of the candidates have been cut, and those left moved to the front, in order
pub record Narrowed (channels : ℕ) (slots slots' : Slots) (entries entries' : Entries) (count j kept : ℕ) : Type 0 where
  pub few : kept ≤ j
  pub living : lived channels slots' entries' kept ≡ survivors_to channels (lived channels slots entries count) j
  pub sane : Sane channels slots' entries' kept
  pub rest : (i : ℕ) → j ≤ i → slot_at slots' i ≡ slot_at slots i
  pub rest_entries : (i : ℕ) → j ≤ i → get_or entries' i [] ≡ get_or entries i []
  pub long : length slots' ≡ length slots
  pub long_entries : length entries' ≡ length entries

-- ---- a new candidate

-- its balls were copied into slot j, its box put beside them, and its entry
pub record Placed (slots slots' : Slots) (entries entries' : Entries) (born : List Float) (j tau n : ℕ) (candidate : Candidate) : Type 0 where
  pub between : List Float
  pub balls : Balled (slot_at slots j) between born n
  pub put : slots' ≡ set slots j (put_box between candidate)
  pub entry : entries' ≡ set entries j (tau ∷ n ∷ [])

-- two numbers for each corner
pub record Wide (x : Candidate) : Type 0 where
  pub lo : length x.lo ≡ 2
  pub hi : length x.hi ≡ 2

-- the candidate b with the balls that an area stands for, cut by them
unfoldable pub born_from : Plan → List Float → ℕ → ℕ → Living
born_from q area balls b = cut_back q.channels (record { tau = b; box = q.range; losing = balls_at q.channels area 0 balls })

-- it goes to slot j unless it is dominated; where there is no slot j nothing is said of the areas
pub record Borne (q : Plan) (slots slots' : Slots) (entries entries' : Entries) (j : ℕ) (c : Living) (balls r : ℕ) : Type 0 where
  pub gone : is_dominated q.channels c.box ≡ true → (r ≡ j) × Unchanged slots slots' entries entries'
  pub counted : is_dominated q.channels c.box ≡ false → r ≡ j + 1
  pub stored : is_dominated q.channels c.box ≡ false → j < length slots → Stored q.channels slots slots' entries entries' j c balls

-- b has met all the candidates of the slots: its balls, and those that are left, at the front
pub record Met (q : Plan) (f : List Float) (slots slots' : Slots) (entries entries' : Entries) (area : List Float) (b balls kept : ℕ) : Type 0 where
  pub lost : Balls q.channels area balls (lost_to (task q) f b (lived q.channels slots entries (length slots)) (length slots))
  pub living : lived q.channels slots' entries' kept ≡ winners_to (task q) f b (lived q.channels slots entries (length slots)) (length slots)
  pub sane : Sane q.channels slots' entries' kept
  pub few : kept ≤ length slots

-- b has joined the living candidates: how many there are, and, where the slots suffice, that the areas hold them
pub record Joins (q : Plan) (f : List Float) (slots slots' : Slots) (entries entries' : Entries) (count b r : ℕ) : Type 0 where
  pub counted : r ≡ length (join_of (task q) f b (lived q.channels slots entries count))
  pub living : r ≤ length slots → lived q.channels slots' entries' r ≡ join_of (task q) f b (lived q.channels slots entries count)
  pub sane : r ≤ length slots → Sane q.channels slots' entries' r
  pub few : r ≤ count + 1

-- ---- a step

-- the indices of the `count` living candidates
unfoldable pub taus : Entries → ℕ → List ℕ
taus entries count = tab (tau_at entries) count

-- the areas hold the state before step t, and the slots sufficed so far
pub record Holds (q : Plan) (xs : List Float) (ix : List ℕ) (entries : Entries) (slots : Slots) (count t : ℕ) : Type 0 where
  pub sound : Sound q
  pub long_f : length xs ≡ q.n + 1
  pub long_last : length ix ≡ q.n + 1
  pub room : q.n + 1 ≤ length entries
  pub sane : Sane q.channels slots entries count
  pub from : q.m ≤ t
  pub few : count ≤ length slots
  pub fewer : count + q.m ≤ t + 1
  pub f : xs ≡ (state_after (task q) (t - q.m)).f
  pub last : ix ≡ (state_after (task q) (t - q.m)).last
  pub living : lived q.channels slots entries count ≡ (state_after (task q) (t - q.m)).living
  pub peak : (state_after (task q) (t - q.m)).peak ≤ length slots

-- how many live after step t, and, where the slots suffice, that the areas hold the next state
pub record Stepped (q : Plan) (f : List Float) (last : List ℕ) (entries : Entries) (slots : Slots) (t r : ℕ) : Type 0 where
  pub counted : r ≡ length (state_after (task q) (t + 1 - q.m)).living
  pub holds : r ≤ length slots → Holds q f last entries slots r (t + 1)

-- all steps with `slots` slots: whether these sufficed, and if so the predecessors
pub record Searched (q : Plan) (ix : List ℕ) (slots : ℕ) (r : Bool) : Type 0 where
  pub answer : r ≡ leb (functional (task q)).peak slots
  pub last : r ≡ true → ix ≡ (functional (task q)).last

-- the same of a task, with the predecessors at the front of the indices, before anything is cleared
pub record Ran (k : Task) (slots : ℕ) (ix : List ℕ) (r : Bool) : Type 0 where
  pub answer : r ≡ leb (functional k).peak slots
  pub last : r ≡ true → part ix 0 (k.n + 1) ≡ (functional k).last
