-- From the last station to the first: those behind the ones ahead are in the index. Assumes nothing.
use Rattle.std.proofs.Common.{◌≡◌}
use Rattle.std.specs.Iterator.Adapters.{enumerate_count, enumerate_source, rev_source}
use Rattle.std.specs.Slice.Iter.{iter_rest}
use Rattle.ways.proofs.Slots.{Filled}
use Rattle.ways.proofs.walk.fill_index.Given as goal

abbrev pub invariant-loop-i : goal.invariant-loop-i
invariant-loop-i l = record {
  uncounted : enumerate_count (rev_source l.i-iterator) ≡ 0;
  filled : Filled l.ringlet l.table (iter_rest (enumerate_source (rev_source l.i-iterator))) l.index;
}
