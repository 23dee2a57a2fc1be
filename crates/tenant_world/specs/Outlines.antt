-- What shows of a name without the content of its blocks: its lease, its kind, and how much it has.
use Rattle.std.specs.Prelude.{ℕ, length}
use Rattle.far_history.specs.Worlds.{Body, DirBody, FileBody, QueueBody, TableBody, Node}
use Rattle.block_queue.specs.Queues.{count_of}
use Rattle.tenant_world.specs.declared.names.Named.{Named}
use Rattle.tenant_world.specs.declared.names.Content.{Content}
use Rattle.tenant_world.specs.declared.names.Content.TheVariants.{File, Queue}

-- a directory, or so many bytes, items or keys
pub data Extent : Type 0 where
  DirExtent : Extent
  FileExtent : (bytes : ℕ) → Extent
  QueueExtent : (items : ℕ) → Extent
  TableExtent : (keys : ℕ) → Extent

pub record Outline : Type 0 where
  pub lease : ℕ
  pub extent : Extent

abbrev pub extent_of : Body → Extent
extent_of DirBody = DirExtent
extent_of (FileBody bytes) = FileExtent (length bytes)
extent_of (QueueBody items) = QueueExtent (length items)
extent_of (TableBody values) = TableExtent (length values)

abbrev pub outline_of : Node → Outline
outline_of node = record { lease = node.lease; extent = extent_of node.body }

-- what a tenant's fields show, without its store
abbrev pub content_extent : Content → Extent
content_extent (File file) = FileExtent file.length
content_extent (Queue queue) = QueueExtent (count_of queue)

abbrev pub named_outline : Named → Outline
named_outline named = record { lease = named.lease; extent = content_extent named.content }
