-- The edges of a run, which are the source that it reads, the sink that it writes to and the disk.
use Rattle.std.specs.Prelude.{ℕ, List, Option}
use Rattle.per_base.specs.declared.streams.Sink.{Ghosts as SinkOf}
use Rattle.per_base.specs.declared.streams.Source.{Ghosts as SourceOf}
use Rattle.disk_model.specs.declared.disk.Disk.{Ghosts as DiskOf}
use Rattle.disk_model.specs.Medium.{Medium}
use Rattle.run_model.specs.Endings.{FailureCounts}

-- what stands at the edges at one moment; D is what is said of the disk
pub record Edges {ℓ} (D : Type ℓ) : Type ℓ where
  -- what the source has left, and what the sink has taken; None where nothing is said of it
  pub left : Option (List ℕ)
  pub taken : Option (List ℕ)
  -- how many calls of each have failed
  pub source_failures : ℕ
  pub sink_failures : ℕ
  pub disk : D

-- of this source, this sink and this disk, by what their traits say of them
abbrev pub edges {ℓ} : {S K : Type 0} {D : Type ℓ} → SourceOf S → SinkOf K → S → K → D → Edges D
edges of_source of_sink source sink disk = record {
  left = of_source.left source;
  taken = of_sink.written sink;
  source_failures = of_source.faults source;
  sink_failures = of_sink.faults sink;
  disk = disk;
}

-- the same with the disk as it is modelled
abbrev pub modelled : {D : Type 0} → DiskOf D → Edges D → Edges Medium
modelled of_disk at = record {
  left = at.left;
  taken = at.taken;
  source_failures = at.source_failures;
  sink_failures = at.sink_failures;
  disk = of_disk.medium at.disk;
}

-- how many calls of the disk, of the source and of the sink have failed
abbrev pub failures_at : Edges Medium → FailureCounts
failures_at at = record { disk = at.disk.faults; source = at.source_failures; sink = at.sink_failures }
