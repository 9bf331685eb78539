use Rattle.std.proofs.Common.{◌≡◌, All, length, map}
use Rattle.std.specs.Cow.{cow_slice_items, IsBorrowedSlice}
use Rattle.mr_resp.proofs.WholeWords.{Begun}
use Rattle.mr_resp.proofs.quick.whole_request.Given as goal

abbrev pub invariant-loop : goal.invariant-loop
invariant-loop l = record {
  borrowed : All IsBorrowedSlice l.words.items;
  counted : length l.words.items ≡ l.counter;
  begun : Begun l.limits l.input l.count (map cow_slice_items l.words.items) l.at;
}
