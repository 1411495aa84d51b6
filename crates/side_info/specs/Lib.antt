-- What the helpers' contracts say beside the definition.
pub mod Parts
