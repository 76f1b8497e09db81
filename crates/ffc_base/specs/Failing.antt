-- A source and a sink in memory whose calls fail by number.
use Rattle.std.specs.Prelude.{◌==◌, ℕ, ◌<◌, ◌≤◌, List, length, find, Contains, Option, option_map}
use Rattle.ffc_base.specs.Counts.{counted}
use Rattle.ffc_base.specs.Contents.{Contents}

-- what is read, the most bytes that one read gives, the numbers of the calls that fail, and how many calls were made
-- and failed
pub record SourceState : Type 0 where
  pub content : Contents
  pub piece : ℕ
  pub fails : List ℕ
  pub calls : ℕ
  pub faults : ℕ

-- what is so of every source: a read can give a byte, no more was read than there is, and the faults are in a
-- counter's range
pub record IsSourceState (s : SourceState) : Type 0 where
  pub gives : 0 < s.piece
  pub within : s.content.position ≤ length s.content.bytes
  pub in_range : s.faults ≤ 18446744073709551615

-- the source's next call is one of those that fail
abbrev pub NextFails : SourceState → Type 0
NextFails s = Contains s.fails (counted s.calls)

-- the source with one more call made
abbrev pub source_after_call : SourceState → SourceState
source_after_call s = record s { calls = counted s.calls }

-- the source with one more call made and failed
abbrev pub source_after_fault : SourceState → SourceState
source_after_fault s = record s { calls = counted s.calls; faults = counted s.faults }

-- what was written, the numbers of the calls that fail, each with the length of the prefix that it still appends, and
-- how many calls were made and failed
pub record SinkState : Type 0 where
  pub bytes : List ℕ
  pub fails : List (ℕ × ℕ)
  pub calls : ℕ
  pub faults : ℕ

-- what is so of every sink: the faults are in a counter's range
abbrev pub IsSinkState : SinkState → Type 0
IsSinkState s = s.faults ≤ 18446744073709551615

-- where the sink's next call is one of those that fail, the length in the first entry of its number
abbrev pub next_prefix : SinkState → Option ℕ
next_prefix s = option_map (λ entry. entry.1) (find (λ entry. entry.0 == counted s.calls) s.fails)

-- the sink with one more call made
abbrev pub sink_after_call : SinkState → SinkState
sink_after_call s = record s { calls = counted s.calls }

-- the sink with one more call made and failed
abbrev pub sink_after_fault : SinkState → SinkState
sink_after_fault s = record s { calls = counted s.calls; faults = counted s.faults }
