use Rattle.std.proofs.Common.{[], refl, sym, ap, subst, ◌∙◌}
use Rattle.far_words.specs.declared.kind.Kind.{Kind}
use Rattle.far_history.specs.Answers.{is_served, empty_body}
use Rattle.far_history.specs.Layouts.{KeptFile, kept_empty}
use Rattle.block_file.specs.Files.{FileView}
use Rattle.block_queue.specs.Queues.{QueueView}
use Rattle.tenant_world.specs.declared.names.Content.TheVariants.{File, Queue}
use Rattle.tenant_world.specs.Contents.{blocks_of}
use Rattle.tenant_world.specs.Outlines.{extent_of, content_extent}
use Rattle.tenant_world.specs.Standing.{IsKeptAs}
use Rattle.tenant_world.proofs.names.empty_content.Goals as goal

pub returns-in-File : goal.returns-in-File
returns-in-File c = record {
  served = ap is_served c.in-File.is;
  shows = ap (λ (f : FileView). content_extent (File f)) c.new.ensures.file ∙ ap (λ (k : Kind). extent_of (empty_body k)) (sym c.in-File.is);
  blocks = ap (λ (f : FileView). f.blocks) c.new.ensures.file;
  sound = c.new.ensures.sound;
  kept = λ size m. subst (λ (k : Kind). IsKeptAs size m (File c.new.result) (kept_empty k) (empty_body k)) (sym c.in-File.is)
      ([], ap (λ (f : FileView). KeptFile f.blocks) (sym c.new.ensures.file), refl, c.new.ensures.bytes size m);
}

pub returns-in-Queue : goal.returns-in-Queue
returns-in-Queue c = record {
  served = ap is_served c.in-Queue.is;
  shows = ap (λ (q : QueueView). content_extent (Queue q)) c.new-in-Queue.ensures.queue ∙ ap (λ (k : Kind). extent_of (empty_body k)) (sym c.in-Queue.is);
  blocks = ap (λ (q : QueueView). blocks_of (Queue q)) c.new-in-Queue.ensures.queue;
  sound = c.new-in-Queue.ensures.sound;
  kept = λ size m. subst (λ (k : Kind). IsKeptAs size m (Queue c.new-in-Queue.result) (kept_empty k) (empty_body k)) (sym c.in-Queue.is) ([], refl, refl, c.new-in-Queue.ensures.items m);
}
