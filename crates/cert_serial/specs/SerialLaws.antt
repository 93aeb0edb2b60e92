-- Serial certification obeys the laws of a certifier.
use Rattle.std.proofs.Common.{ℕ, Bool, true, List, refl}
use Rattle.std.proofs.lemmas.Bool.{not-true}
use Rattle.tcs_terms.specs.Payloads.{Accesses}
use Rattle.tcs_terms.specs.Shards.{seen}
use Rattle.tcs_laws.specs.Writing.{seen_below}
use Rattle.tcs_laws.specs.Laws.{IsLawful, OrdersWrites, ChecksReads}
use Rattle.tcs_laws.specs.Sight.{GoesBySight}
use Rattle.tcs_laws.proofs.PartLemmas.{part_sees}
use Rattle.tcs_laws.proofs.SightLaws.{lawful_by_sight, none_written, not_below}
use Rattle.cert_serial.specs.Serial.{serial}

pub serial_lawful : IsLawful serial
serial_lawful = lawful_by_sight seen part_sees (λ p name none. none)

pub serial_checks_reads : ChecksReads serial
serial_checks_reads = record {
  above = λ old new p q ok name written. not_below (seen new name) old.version
      (none_written (λ x. seen_below (seen new x) old.version) old.writes (not-true _ ok) name written);
}

pub serial_orders_writes : OrdersWrites serial
serial_orders_writes = record {
  above = λ old new p q ok name by_old by_new. serial_checks_reads.above old new p q ok name by_old;
}

-- what a payload saw counts of each object
abbrev pub counts_all : Accesses → List ℕ → Bool
counts_all p name = true

pub serial_goes_by_sight : GoesBySight counts_all serial
serial_goes_by_sight = record { committed = λ old new. refl; prepared = λ old new of_old of_new. refl }
