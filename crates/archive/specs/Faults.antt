-- The number, place and layer of each fault of the archive. Assumes nothing.
use Rattle.std.specs.Prelude.{Some, Option}
use Rattle.refusal.specs.declared.Refusal.{Refusal}
use Rattle.draft.specs.Faults.{draft_refusal}
use Rattle.plan.specs.Faults.{plan_refusal}
use Rattle.rule_file.specs.Faults.{rule_file_refusal}
use Rattle.archive.specs.declared.fault.ArchiveFault.{ArchiveFault}
use Rattle.archive.specs.declared.fault.ArchiveFault.TheVariants as archive
use Rattle.archive.specs.declared.fault.DraftFileFault.{DraftFileFault}
use Rattle.archive.specs.declared.fault.DraftFileFault.TheVariants as drafting

-- those of the fault inside
abbrev pub archive_refusal : ArchiveFault → Option Refusal
archive_refusal (archive.Plan f) = plan_refusal f
archive_refusal (archive.Rules f) = Some (rule_file_refusal f)

abbrev pub draft_file_refusal : DraftFileFault → Option Refusal
draft_file_refusal (drafting.Plan f) = plan_refusal f
draft_file_refusal (drafting.Draft f) = Some (draft_refusal f)
draft_file_refusal (drafting.Rules f) = Some (rule_file_refusal f)
