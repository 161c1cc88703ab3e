-- The abstract values of layouts, frames and blocks.
use Rattle.bac_capture.specs.declared.file.Layout.{Layout}
use Rattle.bac_capture.specs.declared.block.Frame.{Frame}
use Rattle.bac_capture.specs.declared.block.Block.{Block}
use Rattle.bac_capture.specs.declared.block.Block.TheVariants as block
use Rattle.bac_capture.specs.Blocks.{LayoutView, FrameView, BlockView, FrameBlock, SectionBlock, InterfaceBlock, OtherBlock}

abbrev pub layout_view : Layout → LayoutView
layout_view l = record { form = l.form; order = l.order; interfaces = l.interfaces.items }

abbrev pub frame_view : Frame → FrameView
frame_view f = record { link = f.link; moment = f.moment; octets = f.octets.now }

abbrev pub block_view : Block → BlockView
block_view (block.Frame frame) = FrameBlock (frame_view frame)
block_view (block.Section order) = SectionBlock order
block_view (block.Interface interface) = InterfaceBlock interface
block_view block.Other = OtherBlock
