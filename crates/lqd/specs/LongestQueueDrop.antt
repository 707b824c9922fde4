-- What a switch with Longest Queue Drop is, over any tie rule: what opening it, an arrival and a tick make of it. Assumes nothing.
--     Meaning R                       the meaning of a tie rule with states R, as the trait TieRule has it: picks, the port that it picks; after, its state once it is told of a port; and its letter. The law of picks is not in it
--     Held, State                     a held cell; a switch
--     queue s p, held s p             the queue of port p, and how many cells are in it
--     offered_by, sent_by, lost_by    the counts of a port
--     held_in_all s, sent_in_all s    how many cells are held, and how many were sent, over all ports
--     opened rule n b                 a switch of n ports and b cells that was just opened
--     counted_length s k p            the length of queue p that counts when a cell arrives for port k
--     candidates s k                  what the rule is given when a cell arrives for port k
--     loser meaning s k               the port that loses a cell when one arrives for port k, if one does
--     arrive meaning s k x            an arrival for port k, put at place x
--     PlaceFor meaning s k x          x is a place for the cell that arrives for port k
--     ticked s                        a tick
--     Step meaning s e t              the event e makes t of s
--     Run meaning rule n b            the runs of a switch that was opened so
--     losses meaning run              what was lost in a run, of which losses_of counts the losses of a port
use Rattle.std.specs.Prelude.{◌≡◌, ℕ, ◌+◌, ◌-◌, ◌<◌, min, cond, List, [], ◌∷◌, ◌++◌, map, length, take, drop, replicate, Some, None, sum_by, count_by, Option, ◌==◌, ◌≢◌, nat_eq, nat_lt, slice_index, slice_index_or, slice_set}
use Rattle.tie.specs.declared.candidate.Candidate.{Candidate}
use Rattle.tie.specs.Candidates.{by_port}
pub use Rattle.tie.specs.declared.tie_rule.TieRule.{Ghosts as Meaning}
use Rattle.lqd.specs.Ports.{in_all, greatest, one, one_more}
use Rattle.lqd.specs.Events.{Event, arrival, tick, After, begins, goes}

-- a cell that is held: its place in the memory, and the period in which it arrived
pub record Held : Type 0 where
  pub place : ℕ
  pub period : ℕ

-- a switch: the state of its rule; how many ports and cells it has; the period, which is the number of ticks so far; and for each port its queue, the head first, and how many cells were offered, sent and lost
pub record State (R : Type 0) : Type 0 where
  pub rule : R
  pub ports : ℕ
  pub cells : ℕ
  pub period : ℕ
  pub queues : List (List Held)
  pub offered : List ℕ
  pub sent : List ℕ
  pub lost : List ℕ

-- the period in which the cell at the head of a queue arrived; d for an empty queue
abbrev pub head_period : List Held → ℕ → ℕ
head_period [] d = d
head_period (cell ∷ cells) d = cell.period

-- the queues without the cell at the tail of queue v
abbrev pub without_tail : List (List Held) → ℕ → List (List Held)
without_tail queues v = slice_set queues v (take (length (slice_index_or queues v []) - 1) (slice_index_or queues v []))

-- how many cells lie at place x
abbrev pub cells_at : List (List Held) → ℕ → ℕ
cells_at queues x = sum_by (count_by (λ cell. nat_eq x cell.place)) queues

-- x is one of the b places, and no cell lies there
abbrev pub Free : ℕ → List (List Held) → ℕ → Type 0
Free b queues x = (x < b) × (cells_at queues x ≡ 0)

module _ {R : Type 0} where
  -- the queue of port p
  abbrev pub queue : State R → ℕ → List Held
  queue s p = slice_index_or s.queues p []

  -- how many cells port p holds
  abbrev pub held : State R → ℕ → ℕ
  held s p = length (queue s p)

  -- how many cells have arrived for port p
  abbrev pub offered_by : State R → ℕ → ℕ
  offered_by s p = slice_index s.offered p

  -- how many cells port p has sent
  abbrev pub sent_by : State R → ℕ → ℕ
  sent_by s p = slice_index s.sent p

  -- how many cells port p has lost
  abbrev pub lost_by : State R → ℕ → ℕ
  lost_by s p = slice_index s.lost p

  -- how many cells are held over all ports
  abbrev pub held_in_all : State R → ℕ
  held_in_all s = in_all s.ports (held s)

  -- how many cells were sent over all ports
  abbrev pub sent_in_all : State R → ℕ
  sent_in_all s = in_all s.ports (sent_by s)

  -- just opened: the rule as it is, all else empty and zero
  abbrev pub opened : R → ℕ → ℕ → State R
  opened rule n b = record {
    rule = rule;
    ports = n;
    cells = b;
    period = 0;
    queues = replicate n [];
    offered = replicate n 0;
    sent = replicate n 0;
    lost = replicate n 0;
  }

  -- a cell for port k joins the tail of its queue, at place x, and counts as offered
  abbrev pub enqueued : State R → ℕ → ℕ → State R
  enqueued s k x = record {
    rule = s.rule;
    ports = s.ports;
    cells = s.cells;
    period = s.period;
    queues = slice_set s.queues k (queue s k ++ record { place = x; period = s.period } ∷ []);
    offered = one_more s.offered k;
    sent = s.sent;
    lost = s.lost;
  }

  -- port v loses the cell at the tail of its queue, the rule is told of v, and the cell counts as lost
  abbrev pub pushed_out : Meaning R → State R → ℕ → State R
  pushed_out meaning s v = record {
    rule = meaning.after s.rule v;
    ports = s.ports;
    cells = s.cells;
    period = s.period;
    queues = without_tail s.queues v;
    offered = s.offered;
    sent = s.sent;
    lost = one_more s.lost v;
  }

  -- the length of queue p that counts when a cell arrives for port k: one more for k, since the arriving cell is counted in
  abbrev pub counted_length : State R → ℕ → ℕ → ℕ
  counted_length s k p = held s p + one k p

  -- the stamp of port p when a cell arrives for port k: the period of its head cell; for an empty queue k the present period, and for any other empty queue 0
  abbrev pub stamp : State R → ℕ → ℕ → ℕ
  stamp s k p = head_period (queue s p) (cond (p == k) s.period 0)

  -- what the rule is given when a cell arrives for port k: the ports of the greatest counted length are marked
  abbrev pub candidates : State R → ℕ → List Candidate
  candidates s k =
      let longest = greatest s.ports (counted_length s k) in
      by_port s.ports (λ p. record { marked = (counted_length s k p == longest); stamp = stamp s k p })

  -- what port p sends at a tick: one cell, or none where its queue is empty
  abbrev pub sends : State R → ℕ → ℕ
  sends s p = min (held s p) 1

  -- a tick: the head of every queue that is not empty is sent, and the next period begins
  unfoldable pub ticked : State R → State R
  ticked s = record {
    rule = s.rule;
    ports = s.ports;
    cells = s.cells;
    period = s.period + 1;
    queues = map (drop 1) s.queues;
    offered = s.offered;
    sent = by_port s.ports (λ p. sent_by s p + sends s p);
    lost = s.lost;
  }

-- a cell that was lost: in which period, when a cell arrived for which port, and by which port; the arriving cell itself where the two ports are the same
pub record Loss : Type 0 where
  pub period : ℕ
  pub arriving : ℕ
  pub losing : ℕ

-- how many of these cells port p has lost
abbrev pub losses_of : ℕ → List Loss → ℕ
losses_of p these = count_by (λ loss. nat_eq p loss.losing) these

-- over a rule with this meaning
module _ {R : Type 0} (meaning : Meaning R) where
  -- the port that loses a cell when one arrives for port k: none while there is room, and the rule's pick when the memory is full
  unfoldable pub loser : State R → ℕ → Option ℕ
  loser s k = cond (nat_lt (held_in_all s) s.cells) None (Some (meaning.picks s.rule (candidates s k)))

  -- x is a place for the cell that arrives for port k: a free one, or one that is free once another port has lost its cell; where the arriving cell itself is lost, it needs none
  abbrev pub PlaceFor : State R → ℕ → ℕ → Type 0
  PlaceFor s k x = elim (loser s k) [ None ↦ Free s.cells s.queues x | Some v ↦ (v ≢ k) → Free s.cells (without_tail s.queues v) x ]

  -- what is lost in an event
  abbrev pub lost_in : State R → Event → List Loss
  lost_in s (arrival k) = elim (loser s k) [ None ↦ [] | Some v ↦ record { period = s.period; arriving = k; losing = v } ∷ [] ]
  lost_in s tick = []

  -- an arrival for port k, put at place x: the cell joins its queue, and the loser, if there is one, loses its tail: the arriving cell itself where the loser is k
  unfoldable pub arrive : State R → ℕ → ℕ → State R
  arrive s k x = elim (loser s k) [ None ↦ enqueued s k x | Some v ↦ pushed_out meaning (enqueued s k x) v ]

  -- an arrival for one of the ports, at some place for it, makes t of s
  pub record Arrives (s : State R) (k : ℕ) (t : State R) : Type 0 where
    pub port : k < s.ports
    pub place : ℕ
    pub free : PlaceFor s k place
    pub gives : t ≡ arrive s k place

  -- an event makes t of s
  abbrev pub Step : State R → Event → State R → Type 0
  Step s (arrival k) t = Arrives s k t
  Step s tick t = t ≡ ticked s

  -- the runs of a switch of n ports and b cells, opened with this state of its rule
  abbrev pub Run : R → ℕ → ℕ → List Event → State R → Type 0
  Run rule n b es s = After (λ start. start ≡ opened rule n b) Step es s

  -- what was lost in a run, the first loss first
  abbrev pub losses : {rule : R} {n b : ℕ} {es : List Event} {s : State R} → Run rule n b es s → List Loss
  losses (begins start) = []
  losses (goes {e = e} {s = s} run step) = losses run ++ lost_in s e
