use Rattle.std.proofs.Common.{arith, rules}
use Rattle.std.proofs.lemmas.List.{length_push}
use Rattle.receiver.proofs.Packs.{packed_full, packed_next}
use Rattle.receiver.proofs.store.Store.push.Goals as goal

pub returns-then-self : goal.returns-then-self
returns-then-self c = λ r was. record {
  counted = let long = length_push r c.args.bit in omega (arith, was.counted);
  packed = packed_next c.args.self.now r c.args.bit c.write.new.octets was (search rules) c.write.ensures;
}

pub returns-else-self : goal.returns-else-self
returns-else-self c = λ r was. record {
  counted = let long = length_push r c.args.bit in omega (arith, was.counted, c.args.self.now.bound);
  packed = packed_full c.args.self.now r c.args.bit c.write.new.octets was (search rules) c.write.ensures (omega arith);
}
