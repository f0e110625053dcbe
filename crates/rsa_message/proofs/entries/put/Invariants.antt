use Rattle.std.proofs.Common.{◌≡◌, ◌≤◌, ◌+◌, ◌++◌, length}
use Rattle.std.specs.Prelude.{vec_len, vec_capacity}
use Rattle.rsa_message.specs.Message.{stamped}
use Rattle.rsa_message.proofs.entries.put.Given as goal

abbrev pub invariant-loop-req : goal.invariant-loop-req
invariant-loop-req l = record {
  items : l.entries.items ++ stamped l.next l.from l.mask l.req-iterator.rest.items
      ≡ l.initial.entries.items ++ stamped l.number l.from l.mask l.fn.out;
  room : vec_len l.entries + length l.req-iterator.rest.items ≤ vec_capacity l.entries;
  numbers : l.next + length l.req-iterator.rest.items ≡ l.number + length l.fn.out;
}
